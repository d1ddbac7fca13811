use Rattle.am_office_report.proofs.Telling.{told_by}
use Rattle.am_office_report.proofs.heard.Heard.told.Goals as goal

pub returns : goal.returns
returns c = λ journal h.
    told_by c.told.result c.args.self journal c.learn_all.new.self c.as_slice.result.now h c.as_slice.ensures.value c.learn_all.ensures c.told.ensures
