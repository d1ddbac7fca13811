-- What a shift leaves of a block.
use Rattle.std.proofs.Common.{◌≡◌, ◌≢◌, ℕ, ◌+◌, ◌-◌, ◌<◌, ◌≤◌, ◌==◌, cond, List, [], ◌∷◌, ◌++◌, length, get_or, slice_get, Some, refl, sym, ap, ◌∙◌, subst, inl}
use Rattle.std.proofs.Common.{inr, arith, take, length-append}
use Rattle.std.proofs.Math.ListN.{set, length-set}
use Rattle.std.proofs.lemmas.Option.{slice_get-get_or, slice_get_within, get_or_from_slice_get}
use Rattle.std.proofs.Common.{get_or-set_other, get_or-set_same, true, false}
use borrow.Author.Tests.{eqb-true}
use Rattle.am_block.specs.Ring.{Ring, chain}
use Rattle.am_block.specs.Links.{Links, joined}
use Rattle.am_block.specs.Lengths.{head, length_of, pools, IsSound, shifted, one_less, one_more}
use Rattle.am_block.specs.Pools.{Pools, slots, with_slots, size, times, standings, without, place, appended, moved, IsBlock}
use Rattle.am_block.specs.declared.lengths.Lengths.{Lengths}
use Rattle.am_block.specs.declared.List.{List as Which}
use Rattle.am_block.specs.declared.List.TheVariants.{Free, Requests, Replies, InFlight, Notices, Received}
use Rattle.am_block.proofs.Rings.{ring-chain}
use Rattle.am_block.proofs.Chains.{slots-along, size-pools, length_slots}
use Rattle.am_block.proofs.Moves.{times-le-standings, IsBlock-moved, times-without, length-without, times-append}
use Rattle.am_block.proofs.Others.{compare, slots-same, len-same, descriptors-with_slots}
use Rattle.am_block.proofs.Moved.{Fine, take-rings, put-rings, fine-without}

pub fine : (p : Pools) (n : ℕ) → IsBlock p → size p ≡ n → Fine n p
fine p n b e = record {
  once = λ x. grind (arith, b.once x, b.no_other x, e);
  below = λ x le. b.no_other x (omega arith);
}

-- the lengths fit
abbrev pub Fits : Lengths → Pools → Type 0
Fits l p = (w : Which) → length_of l w ≡ length (slots p w)

fits-less : (l : Lengths) (p : Pools) (s : ℕ) (from : Which) → Fits l p → place s (slots p from) < length (slots p from) →
    Fits (one_less l from) (with_slots p from (without s (slots p from)))
fits-less l p s from h there w =
    let out = without s (slots p from) in
    elim (compare from w) as (λ _. length_of (one_less l from) w ≡ length (slots (with_slots p from out) w)) [
      | inl e ↦
          let one = length-without s (slots p from) there in
          let m = h from in
          let q : length_of l from - 1 ≡ length out = omega arith in
          subst (λ (u : Which). length_of (one_less l from) u ≡ length (slots (with_slots p from out) u)) e (len-same l from (length_of l from - 1) ∙ q
          ∙ ap length (sym (slots-same p from out)))
      | inr o ↦ o.lengths l (length_of l from - 1) ∙ h w ∙ ap length (sym (o.kept p out))
    ]

fits-more : (l : Lengths) (p : Pools) (s : ℕ) (to : Which) → Fits l p → Fits (one_more l to) (appended p to s)
fits-more l p s to h w =
    let more = slots p to ++ s ∷ [] in
    elim (compare to w) as (λ _. length_of (one_more l to) w ≡ length (slots (with_slots p to more) w)) [
      | inl e ↦
          let one = length-append (slots p to) (s ∷ []) in
          let m = h to in
          let q : length_of l to + 1 ≡ length more = omega arith in
          subst (λ (u : Which). length_of (one_more l to) u ≡ length (slots (with_slots p to more) u)) e (len-same l to (length_of l to + 1) ∙ q
          ∙ ap length (sym (slots-same p to more)))
      | inr o ↦ o.lengths l (length_of l to + 1) ∙ h w ∙ ap length (sym (o.kept p more))
    ]

-- each node knows its list
abbrev pub Tagged : List Which → Pools → Type 0
Tagged ls p = (w : Which) (s : ℕ) → 1 ≤ times s (slots p w) → slice_get ls s ≡ Some w

tagged-less : (ls : List Which) (p : Pools) (s : ℕ) (from : Which) → Tagged ls p → place s (slots p from) < length (slots p from) →
    Tagged ls (with_slots p from (without s (slots p from)))
tagged-less ls p s from h there w x le =
    let out = without s (slots p from) in
    elim (compare from w) as (λ _. slice_get ls x ≡ Some w) [
      | inl e ↦
          let back = ap (λ u. times x (slots (with_slots p from out) u)) e in
          let same = ap (times x) (slots-same p from out) in
          let one = times-without s x (slots p from) there in
          h from x (omega arith) ∙ ap (λ u. Some u) e
      | inr o ↦ let same = ap (times x) (o.kept p out) in h w x (omega arith)
    ]

pub tagged-more : (ls : List Which) (p : Pools) (s : ℕ) (to : Which) → Tagged ls p → standings p s ≡ 0 → s < length ls → Tagged (set ls s to) (appended p to s)
tagged-more ls p s to h absent lt w x le =
    let more = slots p to ++ s ∷ [] in
    let lt2 : s < length (set ls s to) = omega (arith, length-set ls s to) in
    let other : (u : Which) → 1 ≤ times x (slots p u) → slice_get (set ls s to) x ≡ Some u = λ u m.
    let t = h u x m in
    let z = times-le-standings p u x in
    let ne : x ≢ s = (λ e. let ze = ap (λ y. standings p y) e in absurd (omega arith)) in
    let b = slice_get_within ls x u t in
    slice_get-get_or (set ls s to) x u (omega (arith, length-set ls s to)) ∙ ap (λ g. Some g) (get_or-set_other ls s x to u ne
    ∙ get_or_from_slice_get ls x u u t) in
    elim (compare to w) as (λ _. slice_get (set ls s to) x ≡ Some w) [
      | inl e ↦
          let back = ap (λ u. times x (slots (with_slots p to more) u)) e in
          let same = ap (times x) (slots-same p to more) in
          let one = times-append x (slots p to) s in
          elim (s == x) as (λ b. s == x ≡ b → slice_get (set ls s to) x ≡ Some w) [
            | true ↦ λ y.
                let is : s ≡ x = eqb-true s x y in
                subst (λ (v : ℕ). slice_get (set ls s to) v ≡ Some w) is (slice_get-get_or (set ls s to) s to lt2
                ∙ ap (λ g. Some g) (get_or-set_same ls s to to lt ∙ e))
            | false ↦ λ y. let no : ◌≡◌ {A = ℕ} (cond (s == x) 1 0) 0 = ap (λ b. cond b 1 0) y in other to (omega arith) ∙ ap (λ u. Some u) e
          ]
          refl
      | inr o ↦ let same = ap (times x) (o.kept p more) in other w (omega arith)
    ]

module _ (k : Links) (n : ℕ) (l : Lengths) (i : IsSound k n l) (s : ℕ) (from to : Which)
    (there : place s (slots (pools k n l) from) < length (slots (pools k n l) from)) (lt : s < n) where
  abbrev p : Pools
  p = pools k n l

  abbrev p1 : Pools
  p1 = with_slots p from (without s (slots p from))

  abbrev k1 : Links
  k1 = joined k s

  abbrev k2 : Links
  k2 = shifted k n s to

  abbrev l2 : Lengths
  l2 = one_more (one_less l from) to

  f : Fine n p
  f = fine p n i.block (size-pools k n l i)

  f1 : Fine n p1 × (standings p1 s ≡ 0)
  f1 = fine-without n p f s from there

  rings2 : (w : Which) → Ring k2.next k2.prev (head n w) (slots (moved p from s to) w)
  rings2 = put-rings k1.next k1.prev n p1 f1.0 (take-rings k.next k.prev n p f i.rings i.nodes i.prevs s from there)
      (length-set k.next (get_or k.prev s 0) (get_or k.next s 0) ∙ i.nodes) (length-set k.prev (get_or k.next s 0) (get_or k.prev s 0) ∙ i.prevs) s f1.1 lt to

  fits2 : Fits l2 (moved p from s to)
  fits2 = fits-more (one_less l from) p1 s to (fits-less l p s from (λ w. sym (length_slots k n l w)) there)

  same : (w : Which) → slots (pools k2 n l2) w ≡ slots (moved p from s to) w
  same w =
      slots-along k2 n l2 w ∙ ap (λ m. chain k2.next (get_or k2.next (head n w) 0) m) (fits2 w)
      ∙ ring-chain k2.next k2.prev (head n w) (head n w) (slots (moved p from s to) w) (rings2 w)

  kept : take n k2.descriptors ≡ (moved p from s to).descriptors
  kept = sym (descriptors-with_slots p1 to (slots p1 to ++ s ∷ []) ∙ descriptors-with_slots p from (without s (slots p from)))

  pub shifted_view : pools k2 n l2 ≡ moved p from s to
  shifted_view = λ j. record {
    free = same Free j;
    requests = same Requests j;
    replies = same Replies j;
    in_flight = same InFlight j;
    notices = same Notices j;
    received = same Received j;
    descriptors = kept j;
  }

  pub shifted_sound : IsSound k2 n l2
  shifted_sound =
      let e = sym shifted_view in
      record {
        block = subst IsBlock e (IsBlock-moved p from s to i.block there);
        nodes = length-set (set k1.next (get_or k1.prev (head n to) 0) s) s (head n to) ∙ length-set k1.next (get_or k1.prev (head n to) 0) s
            ∙ length-set k.next (get_or k.prev s 0) (get_or k.next s 0) ∙ i.nodes;
        prevs = length-set (set k1.prev s (get_or k1.prev (head n to) 0)) (head n to) s ∙ length-set k1.prev s (get_or k1.prev (head n to) 0)
            ∙ length-set k.prev (get_or k.next s 0) (get_or k.prev s 0) ∙ i.prevs;
        lists = length-set k.lists s to ∙ i.lists;
        descriptors = i.descriptors;
        rings = subst (λ (q : Pools). (w : Which) → Ring k2.next k2.prev (head n w) (slots q w)) e rings2;
        tags = subst (Tagged k2.lists) e (tagged-more k.lists p1 s to (tagged-less k.lists p s from i.tags there) f1.1 (omega (arith, i.lists)));
      }
