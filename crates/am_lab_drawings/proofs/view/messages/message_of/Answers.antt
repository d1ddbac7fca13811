use Rattle.std.proofs.Common.{◌≡◌, ℕ, List, length, sym, ap, ◌∙◌, subst, arith}
use Rattle.am_lab_picture.specs.Data.{PictureLists}
use Rattle.am_lab_picture.specs.Messages.{message_picture}
use Rattle.am_lab_picture.specs.Rows.{AreInOrder}
use Rattle.am_lab_picture.proofs.Placing.{placed_in_order}
use Rattle.am_office_entries.specs.declared.Entry.{Entry}
use Rattle.am_lab_drawings.specs.View.Pictures.{picture_of}
use Rattle.am_lab_drawings.proofs.view.messages.message_of.Goals as goal

pub message_picture-requires : goal.message_picture-requires
message_picture-requires c =
    subst (λ (p : PictureLists). AreInOrder p.rows) (sym c.in_ok-whole.ensures)
    (placed_in_order (record { first = 3; count = c.len.result }) c.args.journal)

pub returns : goal.returns
returns c =
    let count : c.len.result ≡ length c.args.journal = omega (arith, c.len.ensures, ap (λ (journal : List Entry). length journal) c.journal.view_is) in
    c.in_ok-picture.ensures
    ∙ ap (λ (p : PictureLists). message_picture p c.args.serial) c.in_ok-whole.ensures
    ∙ ap (λ (count : ℕ). message_picture (picture_of c.args.scenario.now c.args.journal (record { first = 3; count = count })) c.args.serial)
    count
