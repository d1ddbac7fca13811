use Rattle.std.specs.Global.{Vec}
use Rattle.std.proofs.Common.{ℕ, List, ap, sym, ◌∙◌}
use Rattle.std.proofs.lemmas.List.{take_all}
use Rattle.am_scenario_types.specs.declared.parts.FaultLine.{FaultLine}
use Rattle.am_machine.specs.Presets.{fails_of}
use Rattle.am_machine.proofs.Presets.{more_in, more_out}
use Rattle.am_machine.proofs.swaps.fails_of.Goals as goal
use Rattle.am_machine.proofs.swaps.fails_of.Goals.{then-is_of_node+in_ok-push, else-is_of_node}

pub loop-fault-preserved : goal.loop-fault-preserved
loop-fault-preserved c =
    elim c.if-is_of_node.branch [
      | then-is_of_node+in_ok-push w ↦
          more_in c.args.node c.args.faults.now c.loop-fault.fault-index _ c.loop-fault.fails.items c.if-is_of_node.fails.items c.loop-fault-test.true
          c.loop-fault.invariant (sym c.is_of_node.ensures ∙ w.if-is_of_node.true)
          (ap (λ (fails : Vec ℕ). fails.items) w.fails-is ∙ w.in_ok-push.ensures.items)
      | else-is_of_node w ↦
          more_out c.args.node c.args.faults.now c.loop-fault.fault-index _ c.loop-fault.fails.items c.if-is_of_node.fails.items c.loop-fault-test.true
          c.loop-fault.invariant (sym c.is_of_node.ensures ∙ w.if-is_of_node.false) (ap (λ (fails : Vec ℕ). fails.items) w.fails-is)
    ]

pub returns : goal.returns
returns c =
    c.loop-fault.invariant
    ∙ ap (λ (faults : List FaultLine). fails_of c.args.node faults) (take_all c.loop-fault.fault-index c.args.faults.now c.loop-fault-test.false)
