use Rattle.std.proofs.Common.{refl}
use Rattle.am_lab_scenarios.specs.Spelling.Texts.{swap_fault_line}
use Rattle.am_lab_scenarios.proofs.Each.{line_more}
use Rattle.am_lab_scenarios.proofs.spelling.texts.put_faults.Goals as goal

pub loop-fault-preserved : goal.loop-fault-preserved
loop-fault-preserved c =
    line_more swap_fault_line _ c.loop-fault.fault-index _ _ _ _ _ c.loop-fault-test.true refl c.loop-fault.invariant c.in_ok-put_swap_fault_line.ensures
