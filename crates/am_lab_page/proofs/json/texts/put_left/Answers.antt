use Rattle.am_lab_page.proofs.Cutting.{left_put}
use Rattle.am_lab_page.proofs.json.texts.put_left.Goals as goal

pub returns : goal.returns
returns c = left_put c.entry_line.result _ _ c.args.event c.entry_line.ensures.ok
