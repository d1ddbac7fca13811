-- A list that is copied slot by slot.
use Rattle.std.specs.Prelude.{slice_get}
use Rattle.std.proofs.Common.{◌≡◌, ℕ, List, [], ◌∷◌, ◌++◌, Some, sym, ap, ◌∙◌, append_assoc}
use Rattle.std.proofs.lemmas.Option.{get_or_from_slice_get}
use Rattle.am_block.specs.declared.Descriptor.{Descriptor}
use Rattle.am_endpoint_body.specs.Views.{blank, seen}

-- one slot more is copied
pub copies_more : {X : Type 0} (f : Descriptor → X) (ds : List Descriptor) (s : ℕ) (d : Descriptor) (x : X) (copy more all : List X) (ys zs : List ℕ) →
    slice_get ds s ≡ Some d → x ≡ f d → more ≡ copy ++ x ∷ [] → ys ≡ s ∷ zs → copy ++ seen f ds ys ≡ all → more ++ seen f ds zs ≡ all
copies_more f ds s d x copy more all ys zs at is grown e so_far =
    ap (λ xs. xs ++ seen f ds zs) grown
    ∙ append_assoc copy (x ∷ []) (seen f ds zs)
    ∙ ap (λ y. copy ++ y ∷ seen f ds zs) (is ∙ ap f (sym (get_or_from_slice_get ds s d blank at)))
    ∙ ap (λ xs. copy ++ seen f ds xs) (sym e)
    ∙ so_far
