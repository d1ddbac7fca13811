use Rattle.std.proofs.Common.{◌≡◌, [], ◌∷◌, ◌++◌, OnOk, codes, subst}
use Rattle.std.specs.Fmt.{decimal}
use Rattle.am_office_text.specs.Pieces.{word_of}
use Rattle.am_office_text.specs.Words.{spaced}
use Rattle.am_office_text.specs.declared.pieces.LinePiece.{LinePiece}
use Rattle.am_lab_reasons.proofs.Joined.{both_put}
use Rattle.am_lab_reasons.proofs.packets.put_late.Goals as goal

pub returns : goal.returns
returns c =
    let mid = c.put_word.new.out.items in
    let new = c.put_spaced.new.out.items in
    both_put c.put_spaced.result new mid c.args.out.now.items (codes " held back by the plan for") (spaced (decimal c.args.by ∷ [])) c.in_ok-put_word.ensures.ok
    (subst (λ (p : LinePiece). OnOk c.put_spaced.result (new ≡ mid ++ spaced (word_of p ∷ []))) c.small.ensures c.put_spaced.ensures.ok)
