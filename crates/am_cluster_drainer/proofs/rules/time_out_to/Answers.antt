use Rattle.std.proofs.Common.{sym, ◌∙◌, ap, arith, Some, None}
use Rattle.std.specs.Prelude.{if◌then◌else◌}
use Rattle.am_office_entries.specs.declared.Event.TheVariants as Events
use Rattle.am_model_drain.specs.declared.Turn.TheVariants as Turns
use Rattle.am_model_drain.specs.Rules as rules
use Rattle.am_cluster_drainer.proofs.Ranges.{rest_all, rest_some, rest_none, rest_past}
use Rattle.am_cluster_drainer.proofs.rules.time_out_to.Goals as goal

pub channels-init : goal.channels-init
channels-init g c =
    let m = g.M.Drainable in
    let s = m.scenario c.args.machine.now in
    let past = m.journal c.args.machine.now in
    record { count = c.channels-channels.ensures; first = rest_all (rules.time_out c.args.node c.args.peer past) _ s.channels c.channels-channels.ensures }

pub returns-then-is_bound-clause-turn : goal.returns-then-is_bound-clause-turn
returns-then-is_bound-clause-turn g c =
    let m = g.M.Drainable in
    let s = m.scenario c.args.machine.now in
    let past = m.journal c.args.machine.now in
    sym (rest_some (rules.time_out c.args.node c.args.peer past) c.channels.channel _ _ (omega arith)
    (ap (λ b. if b then Some (Turns.Once (Events.Expire c.args.node c.args.peer c.channels.channel)) else None) (sym c.is_bound.ensures
    ∙ c.if-is_bound.true))) ∙ c.channels.invariant.first

pub channels-preserved : goal.channels-preserved
channels-preserved g c =
    let m = g.M.Drainable in
    let s = m.scenario c.args.machine.now in
    let past = m.journal c.args.machine.now in
    record {
      count = c.channels.invariant.count;
      first = rest_none (rules.time_out c.args.node c.args.peer past) c.channels.channel _ (omega arith)
          (ap (λ b. if b then Some (Turns.Once (Events.Expire c.args.node c.args.peer c.channels.channel)) else None) (sym c.is_bound.ensures
          ∙ c.if-is_bound.false)) ∙ c.channels.invariant.first;
    }

pub returns-clause-turn : goal.returns-clause-turn
returns-clause-turn g c =
    let m = g.M.Drainable in
    let s = m.scenario c.args.machine.now in
    let past = m.journal c.args.machine.now in
    sym (rest_past (rules.time_out c.args.node c.args.peer past) c.channels.channel _ (omega arith)) ∙ c.channels.invariant.first
