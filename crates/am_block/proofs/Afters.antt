-- What the calls of a block read from its links.
use Rattle.std.proofs.Common.{◌≡◌, ℕ, zero, suc, ◌+◌, ◌<◌, ◌≤◌, List, [], ◌∷◌, ◌++◌, length, get_or, slice_get, Some, None, refl, sym, ap, ◌∙◌, subst, inl, inr}
use Rattle.std.proofs.Common.{arith, drop, take, append_assoc}
use Rattle.std.proofs.lemmas.Option.{same_Some}
use Rattle.am_block.specs.Ring.{Ring, Path}
use Rattle.am_block.specs.Links.{Links}
use Rattle.am_block.specs.Lengths.{head, length_of, with_length, pools, IsSound}
use Rattle.am_block.specs.Pools.{Pools, slots, size, home, place, behind}
use Rattle.am_block.specs.declared.lengths.Lengths.{Lengths}
use Rattle.am_block.specs.declared.List.{List as Which}
use Rattle.am_block.proofs.Rings.{first_of, path-next}
use Rattle.am_block.proofs.Chains.{size-pools, length_slots}
use Rattle.am_block.proofs.Fresh.{below-get}
use Rattle.am_block.proofs.Moves.{home-there, home-stands, stands-times, length-le-total}
use Rattle.am_block.proofs.Others.{compare, head-ge, len-same}
use Rattle.am_block.proofs.Moved.{cut}

pub few_with : (l : Lengths) (a : Which) (m : ℕ) (b : Which) → m ≤ 128 → length_of l b ≤ 128 → length_of (with_length l a m) b ≤ 128
few_with l a m b h k =
    elim (compare a b) as (λ _. length_of (with_length l a m) b ≤ 128) [
      | inl e ↦ let P : Which → Type 0 = λ u. length_of (with_length l a m) u ≤ 128 in subst P e (let s = len-same l a m in omega arith)
      | inr o ↦ let s = o.lengths l m in omega arith
    ]

slice_get-drop : {A : Type 0} (i : ℕ) (xs : List A) → slice_get xs i ≡ slice_get (drop i xs) 0
slice_get-drop zero [] = refl
slice_get-drop zero (x ∷ xs) = refl
slice_get-drop (suc i) [] = refl
slice_get-drop (suc i) (x ∷ xs) = slice_get-drop i xs

module _ (k : Links) (n : ℕ) (l : Lengths) (i : IsSound k n l) where
  abbrev p : Pools
  p = pools k n l

  pub few : (w : Which) → length_of l w ≤ 128
  few w = let a = length_slots k n l w in let b = length-le-total p w in omega (arith, i.block.all_stand, i.block.small)

  module _ (s : ℕ) (lt : s < n) where
    abbrev w : Which
    w = home p s

    small : s < size p
    small = let e = size-pools k n l i in omega arith

    pub stands_at_home : place s (slots p w) < length (slots p w)
    stands_at_home = home-there p s i.block small

    pub tag_home : (r : Which) → slice_get k.lists s ≡ Some r → r ≡ w
    tag_home r e = same_Some r w (sym e ∙ i.tags w s (stands-times s (slots p w) (home-stands p s i.block small)))

    abbrev vs : List ℕ
    vs = drop (place s (slots p w) + 1) (slots p w)

    next-is : get_or k.next s 0 ≡ first_of vs (head n w)
    next-is =
        let us = take (place s (slots p w)) (slots p w) in
        let r : Ring k.next k.prev (head n w) (us ++ s ∷ vs) =
        subst (λ (zs : List ℕ). Ring k.next k.prev (head n w) zs) (cut s (slots p w) stands_at_home) (i.rings w) in
        path-next k.next k.prev (head n w) s (head n w) us vs (subst (λ (zs : List ℕ). Path k.next k.prev (head n w) zs)
        (append_assoc us (s ∷ vs) (head n w ∷ [])) r)

    behind-is : behind s (slots p w) ≡ slice_get vs 0
    behind-is = slice_get-drop (place s (slots p w) + 1) (slots p w)

    first-some : (zs : List ℕ) → first_of zs (head n w) < n → slice_get zs 0 ≡ Some (first_of zs (head n w))
    first-some [] h = let g = head-ge n w in absurd (omega arith)
    first-some (z ∷ zs) h = refl

    first-none : (zs : List ℕ) → ((z : ℕ) → slice_get zs 0 ≡ Some z → z < n) → n ≤ first_of zs (head n w) → slice_get zs 0 ≡ None
    first-none [] b h = refl
    first-none (z ∷ zs) b h = let lt = b z refl in absurd (omega arith)

    pub after_some : get_or k.next s 0 < n → Some (get_or k.next s 0) ≡ behind s (slots p w)
    after_some h = let e = next-is in ap (λ x. Some x) e ∙ sym (behind-is ∙ first-some vs (omega arith))

    pub after_none : n ≤ get_or k.next s 0 → None ≡ behind s (slots p w)
    after_none h =
        let e = next-is in
        sym (behind-is ∙ first-none vs (λ z g. let b = below-get p w (place s (slots p w) + 1) z i.block (behind-is ∙ g) in let sz = size-pools k n l i in
        omega arith) (omega arith))
