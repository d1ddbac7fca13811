use Rattle.am_lab.proofs.fronts.told_up_to.Goals as goal

pub told_fault-requires-clause-stopped : goal.told_fault-requires-clause-stopped
told_fault-requires-clause-stopped c =
    let told = rw c.in-Err-Fault.field-0-is at c.in-Err-Fault.ensures.answer in
    told
