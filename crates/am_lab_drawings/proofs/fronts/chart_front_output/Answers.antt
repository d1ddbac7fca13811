use Rattle.am_lab_drawings.proofs.fronts.chart_front_output.Goals as goal

pub fault_drawn-requires-clause-stopped : goal.fault_drawn-requires-clause-stopped
fault_drawn-requires-clause-stopped c =
    let told = rw c.in-Err-Fault.field-0-is at c.in-Err-Fault.ensures.answer in
    told
