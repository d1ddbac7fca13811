use Rattle.std.proofs.Common.{◌∙◌, arith}
use Rattle.am_lab_page.proofs.Telling.{all_rows_by}
use Rattle.am_lab_page.proofs.json.journal_text.Goals as goal

pub returns : goal.returns
returns c =
    all_rows_by c.args.journal _ _ c.deref.result.now c.in_ok-text.text.items c.in_ok-text.ensures (c.deref.ensures.value ∙ c.in_ok-rows.ensures)
    (grind arith) (grind arith)
