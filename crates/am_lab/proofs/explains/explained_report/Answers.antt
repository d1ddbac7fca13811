use Rattle.am_lab.proofs.explains.explained_report.Goals as goal

pub with_due-requires-clause-stopped : goal.with_due-requires-clause-stopped
with_due-requires-clause-stopped c =
    let told = rw c.in-Err-Fault.field-0-is at c.in-Err-Fault.ensures.answer in
    told
