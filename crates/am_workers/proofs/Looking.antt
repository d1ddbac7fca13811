-- An interface looks at its links, one after the other.
use Rattle.std.specs.Prelude.{is_some, nat_lt, slice_get, slice_set}
use Rattle.std.proofs.Common.{◌≡◌, ◌≢◌, ◌⊎◌, inl, inr, ⊎_elim, ℕ, ◌+◌, ◌-◌, ◌<◌, ◌≤◌, Bool, true, false, List, [], length, Option, Some, None, ap, sym, ◌∙◌, subst, arith}
use Rattle.std.proofs.Common.{if◌then◌else◌, IfNone, IfSome, refl, true≢false}
use Rattle.std.proofs.lemmas.Bool.{le-ltb, lt-ltb, ltb-false, ltb-true}
use Rattle.std.proofs.lemmas.Option.{slice_get_within}
use Rattle.am_lemmas.proofs.Lists.{slice_get-set_elsewhere}
use Rattle.am_wire.specs.Links.{free_places, known, waiting}
use Rattle.am_wire.specs.declared.receiving.LinkIn.{LinkIn}
use Rattle.am_wire.specs.declared.sending.LinkOut.{LinkOut}
use Rattle.am_workers.specs.Turns.Chosen.{place_after}
use Rattle.am_model.specs.Layout.{node_at}
use Rattle.am_workers_laws.specs.Invariants.Works.{Hand}
use Rattle.am_workers.specs.WorkerTurns.{AreWhole, AreWholeTo, NoneIsKnown, TakesFirst, place_on}
use Rattle.am_workers.proofs.Linking.{got_set}

-- ---- one of the ends that send was pumped

pub whole_set : (a : List LinkOut) (k : ℕ) (p : LinkOut) → ((waiting p ≡ []) ⊎ (free_places p ≡ 0)) → AreWholeTo k a → AreWholeTo (k + 1) (slice_set a k p)
whole_set a k p now whole j x low at = ⊎_elim written elsewhere (got_set a k j p x at)
  where
    written : (j ≡ k) × (x ≡ p) → (waiting x ≡ []) ⊎ (free_places x ≡ 0)
    written e = subst (λ (z : LinkOut). (waiting z ≡ []) ⊎ (free_places z ≡ 0)) (sym e.1) now

    elsewhere : (j ≢ k) × (slice_get a j ≡ Some x) → (waiting x ≡ []) ⊎ (free_places x ≡ 0)
    elsewhere e = whole j x (let apart = e.0 in omega (arith, low, apart)) e.1

pub whole_all : (a : List LinkOut) (count : ℕ) → length a ≤ count → AreWholeTo count a → AreWhole a
whole_all a count all whole k o at = whole k o (let low = slice_get_within a k o at in omega (arith, low, all)) at

-- ---- places that are counted round

on_low : (from count n : ℕ) → from + n < count → place_on from count n ≡ from + n
on_low from count n low = ap (λ (b : Bool). if b then from + n else from + n - count) (lt-ltb (from + n) count low)

on_high : (from count n : ℕ) → count ≤ from + n → place_on from count n ≡ from + n - count
on_high from count n high = ap (λ (b : Bool). if b then from + n else from + n - count) (le-ltb (from + n) count high)

by_size : (a b : ℕ) → (a < b) ⊎ (b ≤ a)
by_size a b = by_test (nat_lt a b) refl
  where
    by_test : (t : Bool) → nat_lt a b ≡ t → (a < b) ⊎ (b ≤ a)
    by_test true is = inl (ltb-true a b is)
    by_test false is = inr (ltb-false a b is)

pub on_none : (from count : ℕ) → from < count → place_on from count 0 ≡ from
on_none from count low = on_low from count 0 (omega (arith, low)) ∙ omega arith

-- after all of them it is where it was
pub on_all : (from count : ℕ) → from < count → place_on from count count ≡ from
on_all from count low = on_high from count count (omega arith) ∙ omega (arith, low)

after_low : (at count : ℕ) → at + 1 < count → place_after at count ≡ at + 1
after_low at count low = ap (λ (b : Bool). if b then at + 1 else 0) (lt-ltb at (count - 1) (omega (arith, low)))

after_high : (at count : ℕ) → count ≤ at + 1 → place_after at count ≡ 0
after_high at count high = ap (λ (b : Bool). if b then at + 1 else 0) (le-ltb at (count - 1) (omega (arith, high)))

-- one step more
pub on_more : (from count n : ℕ) → from < count → n < count → place_after (place_on from count n) count ≡ place_on from count (n + 1)
on_more from count n low few = ⊎_elim below past (by_size (from + n) count)
  where
    last : from + n < count → count ≤ from + n + 1 → place_after (from + n) count ≡ place_on from count (n + 1)
    last here high = after_high (from + n) count high ∙ sym (on_high from count (n + 1) (omega (arith, high)) ∙ omega (arith, here, high))

    more : from + n + 1 < count → place_after (from + n) count ≡ place_on from count (n + 1)
    more further = after_low (from + n) count further ∙ sym (on_low from count (n + 1) (omega (arith, further)) ∙ omega arith)

    below : from + n < count → place_after (place_on from count n) count ≡ place_on from count (n + 1)
    below here = ap (λ (k : ℕ). place_after k count) (on_low from count n here) ∙ ⊎_elim more (last here) (by_size (from + n + 1) count)

    past : count ≤ from + n → place_after (place_on from count n) count ≡ place_on from count (n + 1)
    past high = ap (λ (k : ℕ). place_after k count) (on_high from count n high) ∙ after_low (from + n - count) count (omega (arith, low, few, high))
        ∙ sym (on_high from count (n + 1) (omega (arith, high)) ∙ omega (arith, high))

-- places that are fewer steps on than there are places differ
pub on_apart : (from count m n : ℕ) → from < count → m < n → n < count → place_on from count m ≢ place_on from count n
on_apart from count m n low less few same = ⊎_elim below past (by_size (from + m) count)
  where
    below : from + m < count → ⊥
    below here =
        let a = on_low from count m here in
        ⊎_elim (λ (there : from + n < count). (let b = on_low from count n there in omega (arith, a, b, same, less)))
        (λ (there : count ≤ from + n). (let b = on_high from count n there in omega (arith, a, b, same, less, few, there))) (by_size (from + n) count)

    past : count ≤ from + m → ⊥
    past here =
        let a = on_high from count m here in
        let b = on_high from count n (omega (arith, here, less)) in
        omega (arith, a, b, same, less, here)

-- ---- one of the ends that receive was looked at

-- what a look at one link changes
pub others_set : (a : List LinkIn) (k : ℕ) (p : LinkIn) (j : ℕ) → j ≢ k → slice_get (slice_set a k p) j ≡ slice_get a j
others_set a k p j apart = slice_get-set_elsewhere a k j p apart

-- the links that were not looked at are as they were
abbrev pub RestIsSame : List LinkIn → List LinkIn → ℕ → ℕ → Type 0
RestIsSame a b from passed = (m : ℕ) → passed ≤ m → m < length a → slice_get b (place_on from (length a) m) ≡ slice_get a (place_on from (length a) m)

-- one more had none
pub none_more : (a b : List LinkIn) (from passed : ℕ) → from < length a → passed < length a → NoneIsKnown a from passed → RestIsSame a b from passed →
    ((i : LinkIn) → slice_get b (place_on from (length a) passed) ≡ Some i → known i ≡ []) → NoneIsKnown a from (passed + 1)
none_more a b from passed low few none rest here n i less at = ⊎_elim before now (by_size n passed)
  where
    before : n < passed → known i ≡ []
    before earlier = none n i earlier at

    now : passed ≤ n → known i ≡ []
    now late =
        let is : n ≡ passed = omega (arith, less, late) in
        here i (rest passed (omega arith) few ∙ ap (λ (m : ℕ). slice_get a (place_on from (length a) m)) (sym is) ∙ at)

-- and the rest is as it was
pub rest_more : (a b c : List LinkIn) (from passed : ℕ) → from < length a → RestIsSame a b from passed →
    ((k : ℕ) → k ≢ place_on from (length a) passed → slice_get c k ≡ slice_get b k) → RestIsSame a c from (passed + 1)
rest_more a b c from passed low rest others m late few =
    others (place_on from (length a) m) (λ same. on_apart from (length a) passed m low (omega (arith, late)) few (sym same)) ∙ rest m (omega (arith, late)) few

-- what is so where no packet was taken
pub none_taken : {X : Type 0} (o : Option X) (P : Type 0) → is_some o ≡ false → IfNone o P → P
none_taken None P none h = h
none_taken (Some x) P none h = absurd (true≢false none)

-- all were passed over
pub all_passed : (a : List LinkIn) (from there passed : ℕ) → from < length a → passed ≡ length a → there ≡ place_on from (length a) passed →
    NoneIsKnown a from passed → TakesFirst a from there None
all_passed a from there passed low all here none =
    (here ∙ ap (λ (m : ℕ). place_on from (length a) m) all ∙ on_all from (length a) low, subst (λ (m : ℕ). NoneIsKnown a from m) all none)

-- the first that had one
pub one_taken : (o : Hand) (a : List LinkIn) (from there passed : ℕ) → is_some o ≡ true → passed < length a →
    IfSome o (λ held. held.0 ≡ node_at (place_on from (length a) passed)) → there ≡ place_on from (length a) (passed + 1) → NoneIsKnown a from passed →
    TakesFirst a from there o
one_taken None a from there passed some few node here none = absurd (true≢false (sym some))
one_taken (Some h) a from there passed some few node here none = (passed, few, node, here, none)
