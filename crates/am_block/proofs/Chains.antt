-- The lists of a block along its links.
use Rattle.std.proofs.Common.{[], ◌∷◌, drop, subst, ◌≡◌, ℕ, zero, suc, ◌<◌, List, length, refl, ap, ◌∙◌, sym, take, get_or, slice_get, arith}
use Rattle.std.proofs.Math.ListN.{set, length-set, length-take}
use Rattle.am_block.specs.Ring.{chain}
use Rattle.am_block.specs.Lengths.{along, head, length_of, pools, IsSound}
use Rattle.am_block.specs.Links.{Links, with_descriptor}
use Rattle.am_block.specs.Pools.{slots, size, IsBlock, with_descriptor as with_slot}
use Rattle.am_block.specs.declared.Descriptor.{Descriptor}
use Rattle.am_block.proofs.Moves.{IsBlock-with_descriptor}
use Rattle.am_block.specs.declared.lengths.Lengths.{Lengths}
use Rattle.am_block.specs.declared.List.{List as Which}
use Rattle.am_block.specs.declared.List.TheVariants.{Free, Requests, Replies, InFlight, Notices, Received}

pub length-chain : (nx : List ℕ) (i n : ℕ) → length (chain nx i n) ≡ n
length-chain nx i zero = refl
length-chain nx i (suc n) = ap (λ m. suc m) (length-chain nx (get_or nx i 0) n)

pub slots-along : (k : Links) (n : ℕ) (l : Lengths) (which : Which) → slots (pools k n l) which ≡ along k n l which
slots-along k n l Free = refl
slots-along k n l Requests = refl
slots-along k n l Replies = refl
slots-along k n l InFlight = refl
slots-along k n l Notices = refl
slots-along k n l Received = refl

pub size-pools : (k : Links) (n : ℕ) (l : Lengths) → IsSound k n l → size (pools k n l) ≡ n
size-pools k n l i = length-take n k.descriptors ∙ omega (arith, i.descriptors)

chain-front : (nx : List ℕ) (i n : ℕ) → 0 < n → chain nx i n ≡ i ∷ drop 1 (chain nx i n)
chain-front nx i zero h = absurd (omega arith)
chain-front nx i (suc n) h = refl

pub front_slot : (k : Links) (n : ℕ) (l : Lengths) (which : Which) (s : ℕ) → 0 < length_of l which → s ≡ get_or k.next (head n which) 0 →
    slots (pools k n l) which ≡ s ∷ drop 1 (slots (pools k n l) which)
front_slot k n l which s h e =
    let xs = along k n l which in
    let a = slots-along k n l which in
    a ∙ chain-front k.next (get_or k.next (head n which) 0) (length_of l which) h ∙ ap (λ x. x ∷ drop 1 xs) (sym e) ∙ ap (λ ys. s ∷ drop 1 ys) (sym a)

pub length_slots : (k : Links) (n : ℕ) (l : Lengths) (which : Which) → length (slots (pools k n l) which) ≡ length_of l which
length_slots k n l which = ap length (slots-along k n l which) ∙ length-chain k.next (get_or k.next (head n which) 0) (length_of l which)

pub take_set : {A : Type 0} (n i : ℕ) (xs : List A) (a : A) → take n (set xs i a) ≡ set (take n xs) i a
take_set zero i xs a = refl
take_set (suc n) i [] a = refl
take_set (suc n) zero (x ∷ xs) a = refl
take_set (suc n) (suc i) (x ∷ xs) a = ap (λ ys. x ∷ ys) (take_set n i xs a)

pub pools-descriptor : (k : Links) (n : ℕ) (l : Lengths) (s : ℕ) (d : Descriptor) → pools (with_descriptor k s d) n l ≡ with_slot (pools k n l) s d
pools-descriptor k n l s d = ap {A = List Descriptor} (λ ds. record (pools k n l) { descriptors = ds }) (take_set n s k.descriptors d)

pub sound-descriptor : (k : Links) (n : ℕ) (l : Lengths) (s : ℕ) (d : Descriptor) → IsSound k n l → IsSound (with_descriptor k s d) n l
sound-descriptor k n l s d i = record {
  block = subst IsBlock (sym (pools-descriptor k n l s d)) (IsBlock-with_descriptor (pools k n l) s d i.block);
  nodes = i.nodes;
  prevs = i.prevs;
  lists = i.lists;
  rings = i.rings;
  tags = i.tags;
  descriptors = length-set k.descriptors s d ∙ i.descriptors;
}

pub slice_get-take : {A : Type 0} (n i : ℕ) (xs : List A) → i < n → slice_get (take n xs) i ≡ slice_get xs i
slice_get-take zero i xs h = absurd (omega arith)
slice_get-take (suc n) i [] h = refl
slice_get-take (suc n) zero (x ∷ xs) h = refl
slice_get-take (suc n) (suc i) (x ∷ xs) h = slice_get-take n i xs (omega arith)
