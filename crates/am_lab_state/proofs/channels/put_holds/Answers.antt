use Rattle.std.proofs.Common.{[], ◌∷◌, ◌++◌, ap, ◌∙◌}
use Rattle.std.specs.Fmt.{decimal}
use Rattle.std.specs.Prelude.{codes}
use Rattle.am_model.specs.History.{channel_to}
use Rattle.am_office_text.specs.Pieces.{word_of}
use Rattle.am_office_text.specs.Words.{serial, spaced}
use Rattle.am_office_text.specs.declared.pieces.LinePiece.{LinePiece}
use Rattle.am_office_text.specs.declared.pieces.LinePiece.TheVariants as Pieces
use Rattle.am_lab_state.specs.Channels.{channel_words}
use Rattle.am_lab_state.proofs.Following.{three_told}
use Rattle.am_lab_state.proofs.channels.put_holds.Goals as goal

pub returns : goal.returns
returns c =
    let at = channel_to c.args.node c.args.peer c.args.number in
    let told = λ (p : LinePiece).
    spaced (codes "holds" ∷ serial c.args.serial ∷ codes "sequence" ∷ decimal c.args.sequence ∷ codes "attempt" ∷ word_of p ∷ []) in
    let out = c.put_channel_words.new.out.items in
    three_told c.put_end.result c.put_end.new.out.items c.put_spaced.new.out.items out c.args.out.now.items (channel_words (codes "to") at)
    (told (Pieces.Number c.args.attempt)) (codes "\n") c.in_ok-put_channel_words.ensures
    (c.in_ok-put_spaced.ensures.ok ∙ ap (λ (p : LinePiece). out ++ told p) c.small.ensures) c.put_end.ensures.ok
