use Rattle.std.proofs.Common.{ℕ, cond, List, [], ◌∷◌, ◌++◌, sym, ap, ◌∙◌}
use Rattle.std.specs.Prelude.{slice_set, is_ok}
use Rattle.std.specs.List.{position}
use Rattle.am_swap_device.specs.Memory.{HeldImage, is_for, holding}
use Rattle.am_swap_device.proofs.Held.{instead_at, instead_none}
use Rattle.am_swap_device.proofs.kept.hold.Goals as goal

pub returns-in-Some : goal.returns-in-Some
returns-in-Some c =
    let kept : List HeldImage = c.args.kept.now.items in
    ap (λ (bytes : List ℕ). slice_set kept c.in-Some.place (holding c.args.key bytes)) c.in-Ok.ensures.items
    ∙ sym (instead_at c.args.key c.args.bytes.now kept c.in-Some.place (ap (position (is_for c.args.key)) (sym c.as_slice.ensures.value)
    ∙ sym c.place_of.ensures ∙ c.in-Some.is))

pub returns-in-None : goal.returns-in-None
returns-in-None c =
    let kept : List HeldImage = c.args.kept.now.items in
    c.hold_more.ensures
    ∙ ap (λ (bytes : List ℕ). cond (is_ok c.hold_more.result) (kept ++ holding c.args.key bytes ∷ []) kept) c.in-Ok.ensures.items
    ∙ ap (λ (after : List HeldImage). cond (is_ok c.hold_more.result) after kept)
    (sym (instead_none c.args.key c.args.bytes.now kept (ap (position (is_for c.args.key)) (sym c.as_slice.ensures.value) ∙ sym c.place_of.ensures
    ∙ c.in-None.is)))
