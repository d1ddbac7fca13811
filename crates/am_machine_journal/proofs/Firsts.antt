-- Which of the heads is the first.
use Rattle.std.specs.Prelude.{Contains, nat_lt, IsPermutation}
use Rattle.std.specs.BinaryHeap.{IsUpperBound}
use Rattle.std.specs.List.{AllByRecursion}
use Rattle.std.specs.Ordering.{is_lt, ordering_then}
use Rattle.std.specs.declared.cmp.Ordering.{Ordering}
use Rattle.std.specs.declared.cmp.Ordering.TheVariants.{Less, Equal, Greater}
use Rattle.std.specs.declared.cmp.Reverse.{Reverse}
use Rattle.std.proofs.Common.{◌≡◌, inl, inr, ⊎_elim, ◌<◌, ◌≤◌, ◌==◌, ◌&&◌, ◌||◌, Bool, true, false, cond, Option, Some, None, List, [], ◌∷◌, ◌++◌, refl, sym}
use Rattle.std.proofs.Common.{subst, arith, true≢false, ltb-false, ltb-true, eqb-true}
use Rattle.std.proofs.lemmas.Bool.{eqb-false}
use Rattle.std.proofs.lemmas.List.Sorted.{Contains-permutation, IsPermutation-cons, IsPermutation-middle, IsPermutation-sym, IsPermutation-trans}
use Rattle.am_office_entries.specs.declared.Entry.{Entry}
use Rattle.am_machine_journal.specs.declared.merge.heads.Head.{Head}
use Rattle.am_machine_journal.specs.Merge.Heads.{AreFirst, IsFirst, IsFirstOf, IsNoLater, head_cmp, is_later, option_reversed}
use Rattle.am_machine_journal.proofs.Standing.{behind, first_or_behind, none_there}

abbrev pub reversed : Head → Reverse Head
reversed h = record { 0 = h }

-- a head that is not above another in the heap stands no later
pub no_later : (h g : Head) → is_lt (head_cmp g h) ≡ false → IsNoLater h.stamp h.rank g
no_later h g e =
    by_tests (nat_lt g.stamp h.stamp) refl (g.stamp == h.stamp) refl (nat_lt g.rank h.rank) refl (cond (g.rank == h.rank) Equal Greater)
    (ordering_then (cond (nat_lt g.log h.log) Less (cond (g.log == h.log) Equal Greater))
    (cond (nat_lt g.place h.place) Less (cond (g.place == h.place) Equal Greater)))
    e
  where
    by_tests : (a : Bool) → nat_lt g.stamp h.stamp ≡ a → (b : Bool) → (g.stamp == h.stamp) ≡ b → (c : Bool) → nat_lt g.rank h.rank ≡ c → (o p : Ordering) →
        is_lt (ordering_then (cond a Less (cond b Equal Greater)) (ordering_then (cond c Less o) p)) ≡ false → IsNoLater h.stamp h.rank g
    by_tests true less b same c lower o p f = absurd (true≢false f)
    by_tests false less true same true lower o p f = absurd (true≢false f)
    by_tests false less true same false lower o p f = inr (sym (eqb-true g.stamp h.stamp same), ltb-false g.rank h.rank lower)
    by_tests false less false same c lower o p f =
        inl (let a = ltb-false g.stamp h.stamp less in let b = eqb-false g.stamp h.stamp same in omega (arith, a, b))

each : {X : Type 0} (P : X → Type 0) (xs : List X) (x : X) → AllByRecursion P xs → Contains xs x → P x
each P [] x all c = absurd (let lt = c.1 in omega (arith, lt))
each P (y ∷ ys) x all c =
    ⊎_elim (λ (here : y ≡ x). subst P here all.0) (λ (there : Contains ys x). each P ys x all.1 there) (first_or_behind y ys x c)

-- a head that is below none in the heap is the first
pub first_from_top : (h : Head) (heads : List (Reverse Head)) → IsUpperBound (λ (a b : Reverse Head). head_cmp b.0 a.0) (reversed h) heads → IsFirst h heads
first_from_top h heads top g c = no_later h g.0 (each (λ (y : Reverse Head). is_lt (head_cmp y.0 h) ≡ false) heads g top c)

-- the other head of a test is no later
pub later : (h g : Head) → is_later h g ≡ true → IsNoLater g.stamp g.rank h
later h g e = by_tests (nat_lt g.stamp h.stamp) refl (g.stamp == h.stamp) refl (nat_lt g.rank h.rank) refl e
  where
    by_tests : (a : Bool) → nat_lt g.stamp h.stamp ≡ a → (b : Bool) → (g.stamp == h.stamp) ≡ b → (c : Bool) → nat_lt g.rank h.rank ≡ c →
        (a || (b && c)) ≡ true → IsNoLater g.stamp g.rank h
    by_tests true less b same c lower f = inl (ltb-true g.stamp h.stamp less)
    by_tests false less true same true lower f = inr (eqb-true g.stamp h.stamp same, (let lt = ltb-true g.rank h.rank lower in omega (arith, lt)))
    by_tests false less true same false lower f = absurd (true≢false (sym f))
    by_tests false less false same c lower f = absurd (true≢false (sym f))

pub not_later : (h g : Head) → is_later h g ≡ false → IsNoLater h.stamp h.rank g
not_later h g e = by_tests (nat_lt g.stamp h.stamp) refl (g.stamp == h.stamp) refl (nat_lt g.rank h.rank) refl e
  where
    by_tests : (a : Bool) → nat_lt g.stamp h.stamp ≡ a → (b : Bool) → (g.stamp == h.stamp) ≡ b → (c : Bool) → nat_lt g.rank h.rank ≡ c →
        (a || (b && c)) ≡ false → IsNoLater h.stamp h.rank g
    by_tests true less b same c lower f = absurd (true≢false f)
    by_tests false less true same true lower f = absurd (true≢false f)
    by_tests false less true same false lower f = inr (sym (eqb-true g.stamp h.stamp same), ltb-false g.rank h.rank lower)
    by_tests false less false same c lower f =
        inl (let a = ltb-false g.stamp h.stamp less in let b = eqb-false g.stamp h.stamp same in omega (arith, a, b))

no_later_than : (a b c : Head) → IsNoLater a.stamp a.rank b → IsNoLater b.stamp b.rank c → IsNoLater a.stamp a.rank c
no_later_than a b c one two =
    ⊎_elim
    (λ (less : a.stamp < b.stamp).
    ⊎_elim (λ (more : b.stamp < c.stamp). inl (omega (arith, less, more))) (λ (tie : (b.stamp ≡ c.stamp) × (b.rank ≤ c.rank)). inl (let e = tie.0 in
    omega (arith, less, e))) two)
    (λ (same : (a.stamp ≡ b.stamp) × (a.rank ≤ b.rank)).
    ⊎_elim
    (λ (more : b.stamp < c.stamp). inl (let e = same.0 in omega (arith, e, more)))
    (λ (tie : (b.stamp ≡ c.stamp) × (b.rank ≤ c.rank)). inr (
      (let e = same.0 in let f = tie.0 in omega (arith, e, f)),
      (let le = same.1 in let more = tie.1 in omega (arith, le, more)),
    ))
    two)
    one

-- a head that stands after none of the heap's top is the first
pub kept_first : (h least : Head) (heads : List (Reverse Head)) → is_later h least ≡ false → IsFirst least heads → IsFirst h heads
kept_first h least heads test first g c = no_later_than h least g.0 (not_later h least test) (first g c)

-- the top of the heap is the first, where another that stands after it takes its place
pub replaced_first : (h least first : Head) (old new : List (Reverse Head)) → is_later h least ≡ true → Contains old (reversed least) → IsFirst first old →
    IsPermutation (reversed h ∷ old) (reversed first ∷ new) → IsFirst first new
replaced_first h least first old new test among top p g c =
    ⊎_elim
    (λ (here : reversed h ≡ g). subst (λ (w : Reverse Head). IsNoLater first.stamp first.rank w.0) here
    (no_later_than first least h (top (reversed least) among) (later h least test)))
    (λ (there : Contains old g). top g there)
    (first_or_behind (reversed h) old g (Contains-permutation (reversed first ∷ new) (reversed h ∷ old) g
    (IsPermutation-sym (reversed h ∷ old) (reversed first ∷ new) p) (behind (reversed first) new g c)))

-- one head in the place of another
pub in_place : (h first : Head) (old rest new : List (Reverse Head)) → IsPermutation old (reversed first ∷ rest) → IsPermutation (reversed h ∷ rest) new →
    IsPermutation (reversed h ∷ old) (reversed first ∷ new)
in_place h first old rest new taken put =
    IsPermutation-trans (reversed h ∷ old) (reversed h ∷ reversed first ∷ rest) (reversed first ∷ new)
    (IsPermutation-cons (reversed h) old (reversed first ∷ rest) taken)
    (IsPermutation-trans (reversed h ∷ reversed first ∷ rest) (reversed first ∷ reversed h ∷ rest) (reversed first ∷ new)
    (IsPermutation-middle (reversed h ∷ []) (reversed first) rest) (IsPermutation-cons (reversed first) (reversed h ∷ rest) new put))

-- the first heads in another order
pub first_again : (logs : List (List Entry)) (heads more : List (Reverse Head)) → IsPermutation heads more → AreFirst logs heads → AreFirst logs more
first_again logs heads more p first =
    record {
      heads' = λ h c. first.heads' h (Contains-permutation more heads h (IsPermutation-sym heads more p) c);
      all = λ k place x is. let l = first.all k place x is in record {
        head = l.head;
        among = Contains-permutation heads more (reversed l.head) p l.among;
        place = l.place;
        later = l.later;
        is = l.is;
      };
    }

-- where there is no first head, there are none
pub none_left : (o : Option Head) (heads : List (Reverse Head)) → o ≡ None → IsFirstOf o heads → option_reversed o ++ heads ≡ []
none_left None heads none first = first
none_left (Some h) heads none first = absurd (let e : None ≡ Some h = sym none in none_there h e)
