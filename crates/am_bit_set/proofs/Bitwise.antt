-- The bits of a word that is shifted, and of words in a row.
use Rattle.std.specs.Prelude.{slice_index, slice_set, if◌then◌else◌}
use Rattle.std.specs.Int.{bit_at, trailing_zeros}
use Rattle.std.proofs.Common.{◌≡◌, ◌≢◌, ℕ, ◌+◌, ◌-◌, ◌*◌, ◌/◌, ◌%◌, ◌^◌, ◌<◌, ◌≤◌, ◌==◌, ⊎_elim, zero, suc, Bool, true, false, cond, Option, Some, None, List}
use Rattle.std.proofs.Common.{[], ◌∷◌, length, w64, refl, sym, ap, ◌∙◌, arith, eq-eqb, eqb-true}
use Rattle.std.proofs.Math.Nat.{div-add-mod, mod-lt, mul_comm}
use Rattle.std.proofs.lemmas.Bool.{cases_eq, cases_lt, eqb-false}
use Rattle.std.proofs.lemmas.List.{get_or-set_same, get_or-set_other, get_or_past}
use Rattle.std.proofs.lemmas.Nat.{pow_pos}
use Rattle.std.proofs.lemmas.Nat.Bits.{bit_at-trailing_zeros, bit_at-zero, bit_at_above, bit_at_cat_high}
use Rattle.am_bit_set.specs.Bits.{IsNext, bit_in}
use Rattle.am_bit_set.specs.Places.{IsNextMark, is_marked}
use Rattle.am_bit_set.specs.declared.BitSet.{BitSet}

-- ---- one word

-- a bit of what a shift leaves
shifted : (n k i : ℕ) → bit_at n (k + i) ≡ bit_at (n / 2 ^ k) i
shifted n k i =
    ap (λ (m : ℕ). bit_at m (k + i)) (sym whole)
    ∙ bit_at_cat_high (n / 2 ^ k) k (n % 2 ^ k) (k + i) (mod-lt n (pow_pos k)) (omega arith)
    ∙ ap (bit_at (n / 2 ^ k)) less
  where
    whole : n / 2 ^ k * 2 ^ k + n % 2 ^ k ≡ n
    whole = ap (λ (m : ℕ). m + n % 2 ^ k) (mul_comm (n / 2 ^ k) (2 ^ k)) ∙ div-add-mod n (2 ^ k)

    less : k + i - k ≡ i
    less = omega arith

shifted_to : (n k i : ℕ) → k ≤ i → bit_at n i ≡ bit_at (n / 2 ^ k) (i - k)
shifted_to n k i le = ap (bit_at n) (omega arith) ∙ shifted n k (i - k)

pub next_none : (n k : ℕ) → n / 2 ^ k ≡ 0 → IsNext (bit_at n) k None
next_none n k none i le = shifted_to n k i le ∙ ap (λ (m : ℕ). bit_at m (i - k)) none ∙ bit_at-zero (i - k)

pub next_some : (n k : ℕ) → 0 < n / 2 ^ k → n / 2 ^ k < 2 ^ 64 → IsNext (bit_at n) k (Some (k + trailing_zeros w64 (n / 2 ^ k)))
next_some n k some small = (omega arith, shifted n k t ∙ least.1, before)
  where
    t : ℕ
    t = trailing_zeros w64 (n / 2 ^ k)

    least : (t < 64) × (bit_at (n / 2 ^ k) t ≡ 1) × ((i : ℕ) → i < t → bit_at (n / 2 ^ k) i ≡ 0)
    least = bit_at-trailing_zeros w64 (n / 2 ^ k) some small

    before : (i : ℕ) → k ≤ i → i < k + t → bit_at n i ≡ 0
    before i le lt = shifted_to n k i le ∙ least.2 (i - k) (omega (arith, lt, le))

-- ---- words in a row

-- a bit of words is one of its word
pub bit_of : (ws : List ℕ) (q r : ℕ) → r < 64 → bit_in ws (64 * q + r) ≡ bit_at (slice_index ws q) r
bit_of ws q r lt =
    let word : (64 * q + r) / 64 ≡ q = omega (arith, lt) in
    let bit : (64 * q + r) % 64 ≡ r = omega (arith, lt) in
    λ i. bit_at (slice_index ws (word i)) (bit i)

-- a bit behind the beginning of a word, up to the next
inside : (ws : List ℕ) (q from k : ℕ) → from < 64 → ((i : ℕ) → from ≤ i → bit_at (slice_index ws q) i ≡ 0) → 64 * q + from ≤ k → k < 64 * q + 64 →
    bit_in ws k ≡ 0
inside ws q from k small none le lt =
    ap (bit_in ws) same ∙ bit_of ws q (k - 64 * q) (omega (arith, le, lt)) ∙ none (k - 64 * q) (omega (arith, le, lt))
  where
    same : k ≡ 64 * q + (k - 64 * q)
    same = omega (arith, le)

-- no bit of the words up to one
abbrev pub NoneUpTo : List ℕ → ℕ → ℕ → Type 0
NoneUpTo ws from to = (k : ℕ) → from ≤ k → k < to → bit_in ws k ≡ 0

pub none_yet : (ws : List ℕ) (n : ℕ) → NoneUpTo ws n n
none_yet ws n k le lt = absurd (omega (arith, le, lt))

pub none_more : (ws : List ℕ) (from q : ℕ) → NoneUpTo ws from (64 * q) → IsNext (bit_at (slice_index ws q)) 0 None → NoneUpTo ws from (64 * (q + 1))
none_more ws from q before none k le lt =
    ⊎_elim (λ (low : k < 64 * q). before k le low) (λ (high : 64 * q ≤ k). inside ws q 0 k (omega arith) none (omega (arith, high)) (omega (arith, lt)))
    (cases_lt k (64 * q))

-- the least bit of a word is that of the words where none stands before it
pub found_in : (ws : List ℕ) (from q low bit : ℕ) → bit < 64 → from ≤ 64 * q + low → NoneUpTo ws from (64 * q + low) →
    IsNext (bit_at (slice_index ws q)) low (Some bit) → IsNext (bit_in ws) from (Some (64 * q + bit))
found_in ws from q low bit small le before found =
    (omega (arith, found.0, le), bit_of ws q bit small ∙ found.1, least)
  where
    least : (k : ℕ) → from ≤ k → k < 64 * q + bit → bit_in ws k ≡ 0
    least k at lt = ⊎_elim (λ (early : k < 64 * q + low). before k at early) late (cases_lt k (64 * q + low))
      where
        late : 64 * q + low ≤ k → bit_in ws k ≡ 0
        late high =
            let same : k ≡ 64 * q + (k - 64 * q) = omega (arith, high) in
            ap (bit_in ws) same ∙ bit_of ws q (k - 64 * q) (omega (arith, lt, small)) ∙ found.2 (k - 64 * q) (omega (arith, high)) (omega (arith, lt, high))

-- no bit lies behind the words
pub behind : (ws : List ℕ) (k : ℕ) → length ws ≡ 4 → 256 ≤ k → bit_in ws k ≡ 0
behind ws k len le = ap (λ (w : ℕ). bit_at w (k % 64)) (get_or_past ws (k / 64) 0 (omega (arith, len, le))) ∙ bit_at-zero (k % 64)

pub none_found : (ws : List ℕ) (from : ℕ) → length ws ≡ 4 → NoneUpTo ws from 256 → IsNext (bit_in ws) from None
none_found ws from len none k le =
    ⊎_elim (λ (low : k < 256). none k le low) (λ (high : 256 ≤ k). behind ws k len high) (cases_lt k 256)

-- the rest of a word has no bit
pub none_left : (ws : List ℕ) (from : ℕ) → IsNext (bit_at (slice_index ws (from / 64))) (from % 64) None → NoneUpTo ws from (64 * (from / 64 + 1))
none_left ws from none k le lt =
    inside ws (from / 64) (from % 64) k (omega arith) none (omega (arith, le)) (omega (arith, lt))

-- the least bit behind the first word is the least of all
pub behind_first : (ws : List ℕ) (from : ℕ) (o : Option ℕ) → NoneUpTo ws from (64 * (from / 64 + 1)) → IsNext (bit_in ws) (64 * (from / 64 + 1)) o →
    IsNext (bit_in ws) from o
behind_first ws from None before none =
    λ k le. ⊎_elim (λ (low : k < 64 * (from / 64 + 1)). before k le low) (λ (high : 64 * (from / 64 + 1) ≤ k). none k high) (cases_lt k (64 * (from / 64 + 1)))
behind_first ws from (Some place) before found =
    let le = found.0 in (omega (arith, le), found.1, least)
  where
    least : (k : ℕ) → from ≤ k → k < place → bit_in ws k ≡ 0
    least k le lt =
        ⊎_elim (λ (low : k < 64 * (from / 64 + 1)). before k le low) (λ (high : 64 * (from / 64 + 1) ≤ k). found.2 k high lt)
        (cases_lt k (64 * (from / 64 + 1)))

-- a bit of a word lies below the 64th
pub below_64 : (n place : ℕ) → n < 2 ^ 64 → bit_at n place ≡ 1 → place < 64
below_64 n place small one =
    ⊎_elim (λ (lt : place < 64). lt) (λ (le : 64 ≤ place). absurd (let none = bit_at_above n 64 place small le in omega (arith, none, one))) (cases_lt place 64)

-- ---- sets

pub none_marked : (marks : BitSet) (k : ℕ) → bit_in marks.words k ≡ 0 → is_marked marks k ≡ false
unfolding is_marked
none_marked marks k none = ap (λ (b : ℕ). b == 1) none

pub is_next : (marks : BitSet) (from : ℕ) (o : Option ℕ) → length marks.words ≡ 4 → IsNext (bit_in marks.words) from o → IsNextMark marks from o
unfolding is_marked
is_next marks from None len none = λ k le. none_marked marks k (none k le)
is_next marks from (Some place) len found =
    (low, found.0, eq-eqb (bit_in marks.words place) 1 found.1, λ k le lt. none_marked marks k (found.2 k le lt))
  where
    low : place < 256
    low = ⊎_elim (λ (lt : place < 256). lt) (λ (le : 256 ≤ place). absurd (let none = behind marks.words place len le in let one = found.1 in
        omega (arith, none, one))) (cases_lt place 256)

-- a word set in the row
bit_set : (ws : List ℕ) (place w k : ℕ) → length ws ≡ 4 → place < 256 → ((i : ℕ) → i < 64 → i ≢ place % 64 →
    bit_at w i ≡ bit_at (slice_index ws (place / 64)) i) → (k ≡ place → ⊥) → bit_in (slice_set ws (place / 64) w) k ≡ bit_in ws k
bit_set ws place w k len small others apart = ⊎_elim here there (cases_eq (k / 64) (place / 64))
  where
    here : k / 64 ≡ place / 64 → bit_in (slice_set ws (place / 64) w) k ≡ bit_in ws k
    here same =
        ap (λ (x : ℕ). bit_at x (k % 64)) (ap (slice_index (slice_set ws (place / 64) w)) same
        ∙ get_or-set_same ws (place / 64) w 0 (omega (arith, len, small)))
        ∙ others (k % 64) (omega arith) (λ (e : k % 64 ≡ place % 64). apart (omega (arith, e, same)))
        ∙ ap (λ (q : ℕ). bit_at (slice_index ws q) (k % 64)) (sym same)

    there : (k / 64 ≡ place / 64 → ⊥) → bit_in (slice_set ws (place / 64) w) k ≡ bit_in ws k
    there other = ap (λ (x : ℕ). bit_at x (k % 64)) (get_or-set_other ws (place / 64) (k / 64) w 0 other)

bit_here : (ws : List ℕ) (place w : ℕ) → length ws ≡ 4 → place < 256 → bit_in (slice_set ws (place / 64) w) place ≡ bit_at w (place % 64)
bit_here ws place w len small = ap (λ (x : ℕ). bit_at x (place % 64)) (get_or-set_same ws (place / 64) w 0 (omega (arith, len, small)))

by_bit : (b : Bool) → (cond b 1 0 == 1) ≡ b
by_bit true = refl
by_bit false = refl

pub is_set : (old new : BitSet) (place w k : ℕ) (marked : Bool) → length old.words ≡ 4 → place < 256 → new.words ≡ slice_set old.words (place / 64) w →
    bit_at w (place % 64) ≡ cond marked 1 0 → ((i : ℕ) → i < 64 → i ≢ place % 64 → bit_at w i ≡ bit_at (slice_index old.words (place / 64)) i) →
    is_marked new k ≡ (if k == place then marked else is_marked old k)
unfolding is_marked
is_set old new place w k marked len small is bit others = by_test (k == place) refl
  where
    by_test : (b : Bool) → (k == place) ≡ b → (bit_in new.words k == 1) ≡ (if b then marked else (bit_in old.words k == 1))
    by_test true at =
        ap (λ (ws : List ℕ). bit_in ws k == 1) is
        ∙ ap (λ (i : ℕ). bit_in (slice_set old.words (place / 64) w) i == 1) (eqb-true k place at)
        ∙ ap (λ (b : ℕ). b == 1) (bit_here old.words place w len small ∙ bit)
        ∙ by_bit marked
    by_test false at =
        ap (λ (ws : List ℕ). bit_in ws k == 1) is
        ∙ ap (λ (b : ℕ). b == 1) (bit_set old.words place w k len small others (eqb-false k place at))

pub no_bit : (k : ℕ) → bit_in (0 ∷ 0 ∷ 0 ∷ 0 ∷ []) k ≡ 0
no_bit k = ap (λ (w : ℕ). bit_at w (k % 64)) (zeros (k / 64)) ∙ bit_at-zero (k % 64)
  where
    zeros : (q : ℕ) → slice_index (0 ∷ 0 ∷ 0 ∷ 0 ∷ []) q ≡ 0
    zeros zero = refl
    zeros (suc zero) = refl
    zeros (suc (suc zero)) = refl
    zeros (suc (suc (suc zero))) = refl
    zeros (suc (suc (suc (suc q)))) = refl
