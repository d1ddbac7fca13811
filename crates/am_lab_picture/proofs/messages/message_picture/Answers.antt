use Rattle.std.proofs.Common.{ap, sym, subst, ◌∙◌}
use Rattle.std.proofs.lemmas.List.Kept.{IsNonDecreasingBy-filter}
use Rattle.am_lab_picture.specs.Data.{PictureLists}
use Rattle.am_lab_picture.specs.Messages.{is_touching, touching}
use Rattle.am_lab_picture.specs.Rows.{AreInOrder}
use Rattle.am_lab_picture.specs.declared.data.PlacedRow.{PlacedRow}
use Rattle.am_lab_picture.proofs.messages.message_picture.Goals as goal

pub shown_at-requires : goal.shown_at-requires
shown_at-requires c =
    subst AreInOrder (sym (c.in_ok-rows.ensures ∙ ap (touching c.args.serial) (c.deref.ensures.value ∙ ap (λ (p : PictureLists). p.rows) c.picture.view_is)))
    (IsNonDecreasingBy-filter (λ (placed : PlacedRow). placed.line) (λ (placed : PlacedRow). is_touching c.args.serial placed.row)
    c.args.picture.now.rows c.requires)
