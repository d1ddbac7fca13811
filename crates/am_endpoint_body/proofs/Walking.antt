-- A walk along a list of a block.
use Rattle.std.specs.Prelude.{slice_get}
use Rattle.std.proofs.Common.{◌≡◌, ℕ, ◌+◌, ◌≤◌, Bool, true, false, cond, List, ◌∷◌, length, Option, None, Some, refl, sym, ap, ◌∙◌, subst, arith}
use Rattle.std.specs.List.{count_by, find}
use Rattle.std.proofs.lemmas.List.Sums.{sum_by-cons, count_by-le-length}
use Rattle.std.proofs.lemmas.Option.{get_or_from_slice_get}
use Rattle.am_block.specs.declared.Descriptor.{Descriptor}
use Rattle.am_block.specs.declared.List.{List as Which}
use Rattle.am_block.specs.declared.Slot.{Slot}
use Rattle.am_block.specs.Pools.{Pools, IsBlock, slots}
use Rattle.am_block.specs.Walk.{StandsIn}
use Rattle.am_block.proofs.Moves.{length-le-total}
use Rattle.am_endpoint_body.specs.declared.walks.Sought.{Sought}
use Rattle.am_endpoint_body.specs.Views.{blank}
use Rattle.am_endpoint_body.specs.Walks.{is_sought, is_sought_at}

pub find-here : (g : ℕ → Bool) (ys : List ℕ) (s : ℕ) (zs : List ℕ) → ys ≡ s ∷ zs → g s ≡ true → find g ys ≡ Some s
find-here g ys s zs e h = ap (λ l. find g l) e ∙ ap (λ b. cond b (Some s) (find g zs)) h

pub find-past : (g : ℕ → Bool) (ys : List ℕ) (s : ℕ) (zs : List ℕ) → ys ≡ s ∷ zs → g s ≡ false → find g ys ≡ find g zs
find-past g ys s zs e h = ap (λ l. find g l) e ∙ ap (λ b. cond b (Some s) (find g zs)) h

pub count-here : (g : ℕ → Bool) (ys : List ℕ) (s : ℕ) (zs : List ℕ) → ys ≡ s ∷ zs → count_by g ys ≡ cond (g s) 1 0 + count_by g zs
count-here g ys s zs e = ap (count_by g) e ∙ sum_by-cons (λ x. cond (g x) 1 0) s zs

pub not_Some : (o : Option Slot) → ((x : Slot) → o ≡ Some x → ⊥) → o ≡ None
not_Some None h = refl
not_Some (Some x) h = absurd (h x refl)

pub stands_of : (xs : List ℕ) (o : Option Slot) (s : Slot) → o ≡ Some s → StandsIn xs o → StandsIn xs (Some s)
stands_of xs o s e h = let P : Option Slot → Type 0 = λ r. StandsIn xs r in subst P e h

-- the test of a slot is that of its descriptor
pub sought_told : (w : Sought) (p : Pools) (s : ℕ) (d : Descriptor) (r b : Bool) → slice_get p.descriptors s ≡ Some d → r ≡ is_sought w d → r ≡ b →
    is_sought_at w p s ≡ b
sought_told w p s d r b at tested is = ap (is_sought w) (get_or_from_slice_get p.descriptors s d blank at) ∙ sym tested ∙ is

pub list_small : (p : Pools) (l : Which) → IsBlock p → length (slots p l) ≤ 128
list_small p l b = omega (arith, length-le-total p l, b.all_stand, b.small)

pub count_small : (p : Pools) (l : Which) (g : ℕ → Bool) → IsBlock p → count_by g (slots p l) ≤ 128
count_small p l g b = omega (arith, list_small p l b, count_by-le-length g (slots p l))
