use Rattle.am_lab_reasons.proofs.Parted.{report_in, tells_parts}
use Rattle.am_lab_reasons.proofs.why.Goals as goal

pub returns : goal.returns
returns c =
    let a = c.args in
    let p = c.in_ok-scenario in
    tells_parts a.form a.text.now a.serial p.scenario p.bytes.now p.ensures.parts c.reasons_of.result
    (c.reasons_of.ensures a.form (report_in a.form a.text.now c.requires.checked p.scenario p.bytes.now p.ensures.parts))
