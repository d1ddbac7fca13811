use Rattle.std.proofs.Common.{◌≡◌}
use Rattle.am_model_drain.specs.Rules as rules
use Rattle.am_cluster_drainer.proofs.Ranges.{rest}
use Rattle.am_cluster_drainer.proofs.rules.time_out_to.Given as goal

-- the first that is given is still to come
abbrev pub invariant-channels : goal.invariant-channels
invariant-channels g l =
    let m = g.M.Drainable in
    let s = m.scenario l.machine in
    let past = m.journal l.machine in
    record {
      count : l.channels ≡ s.channels;
      first : rest (rules.time_out l.node l.peer past) l.channel l.channels ≡ rules.time_out_to s past l.node l.peer;
    }
