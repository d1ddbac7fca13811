use Rattle.std.proofs.Common.{◌≡◌, ◌-◌, length}
use Rattle.am_model_scripts.specs.Layout.{layout_of}
use Rattle.am_model_scripts.specs.Standings.{standings}
use Rattle.am_cluster_drainer.specs.Reads.{mail_of}
use Rattle.am_cluster_drainer.specs.Choices.{first_read, sends_request}
use Rattle.am_cluster_drainer.proofs.Finding.{read_from}
use Rattle.am_cluster_drainer.proofs.rules.first_request.Given as goal

-- the first that finds room is still to come
abbrev pub invariant-ends : goal.invariant-ends
invariant-ends g l =
    let m = g.M.Drainable in
    let ends = standings (layout_of (m.scenario l.machine)) (m.journal l.machine) in
    record {
      count : l.count ≡ length ends;
      first : read_from mail_of (sends_request ends) l.from ends ≡ first_read mail_of (sends_request ends) ends;
    }

abbrev pub decreases-ends : goal.decreases-ends
decreases-ends g l = l.count - l.from
