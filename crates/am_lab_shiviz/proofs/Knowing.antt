-- What is known behind happenings: at no node, and to no happening, more than has happened.
use Rattle.std.specs.Prelude.{slice_get, slice_index, slice_set, replicate, unwrap_or}
use Rattle.std.proofs.Common.{◌≡◌, ℕ, zero, suc, ◌+◌, ◌^◌, ◌<◌, ◌≤◌, max, Bool, true, false, cond, eqb, List, [], ◌∷◌, ◌++◌, length, Option, Some, None, refl, sym, ap, ◌∙◌, subst, arith, fold, append_assoc, eqb-true, eq-eqb, inl, inr, ⊎_elim, ◌⊎◌, ◌||◌}
use Rattle.std.proofs.Math.Nat.{le-max_left, le-max_right, max-le}
use Rattle.std.proofs.lemmas.List.{append-nil, length-set, length_push, get_or-set_other}
use Rattle.std.proofs.lemmas.List.Sums.{sum_by_push, count_by-le-length}
use Rattle.am_lemmas.proofs.Lists.{slice_get-push_cases, slice_get-set_cases, slice_get-set_elsewhere, slice_get-set_here}
use Rattle.am_names.specs.declared.NodeId.{NodeId}
use Rattle.am_office_entries.specs.Entries.{is_node}
use Rattle.am_lab_shiviz.specs.declared.knowledge.Clock.{Clock}
use Rattle.am_lab_shiviz.specs.declared.knowledge.Happening.{Happening}
use Rattle.am_lab_shiviz.specs.Laws.{KnowsAll, happens_at, so_many}
use Rattle.am_lab_shiviz.specs.Clocks.{Known, before, clock, count_at, counted, greater_counts, heard_from, joined, joined_with, known, known_at, known_there, learned, nothing, told, told_by, told_there, touches, unknown}

-- ---- counts of clocks

length_greater : (counts others : List ℕ) → length (greater_counts counts others) ≡ length counts
length_greater [] others = refl
length_greater (count ∷ counts) [] = refl
length_greater (count ∷ counts) (other ∷ others) = ap (λ (n : ℕ). suc n) (length_greater counts others)

greater_at : (counts others : List ℕ) (n : ℕ) → length counts ≡ length others →
    slice_index (greater_counts counts others) n ≡ max (slice_index counts n) (slice_index others n)
greater_at [] [] n e = refl
greater_at [] (other ∷ others) n e = absurd (omega (arith, e))
greater_at (count ∷ counts) [] n e = absurd (omega (arith, e))
greater_at (count ∷ counts) (other ∷ others) zero e = refl
greater_at (count ∷ counts) (other ∷ others) (suc n) e = greater_at counts others n (omega (arith, e))

zero_at : (m n : ℕ) → slice_index (replicate m 0) n ≡ 0
zero_at zero n = refl
zero_at (suc m) zero = refl
zero_at (suc m) (suc n) = zero_at m n

set_low : (counts : List ℕ) (n count : ℕ) → slice_index (slice_set counts n count) n ≤ count
set_low [] n count = omega arith
set_low (first ∷ counts) zero count = omega arith
set_low (first ∷ counts) (suc n) count = set_low counts n count

set_here : (counts : List ℕ) (n count : ℕ) → n < length counts → slice_index (slice_set counts n count) n ≡ count
set_here [] n count h = absurd (omega (arith, h))
set_here (first ∷ counts) zero count h = refl
set_here (first ∷ counts) (suc n) count h = set_here counts n count (omega (arith, h))

-- ---- how much has happened

count_push : (b : Bool) (n m : ℕ) → m ≡ n + cond b 1 0 → n ≤ m
count_push true n m e = omega (arith, e)
count_push false n m e = omega (arith, e)

so_many_push : (n : NodeId) (past : List Happening) (h : Happening) → so_many n (past ++ h ∷ []) ≡ so_many n past + cond (happens_at n h) 1 0
so_many_push n past h = sum_by_push (λ (g : Happening). cond (happens_at n g) 1 0) past h

so_many_more : (n : NodeId) (past : List Happening) (h : Happening) → so_many n past ≤ so_many n (past ++ h ∷ [])
so_many_more n past h = count_push (happens_at n h) (so_many n past) (so_many n (past ++ h ∷ [])) (so_many_push n past h)

so_many_here : (n : NodeId) (past : List Happening) (h : Happening) → n.0 ≡ h.node.0 → so_many n (past ++ h ∷ []) ≡ so_many n past + 1
so_many_here n past h same = so_many_push n past h ∙ ap (λ (b : Bool). so_many n past + cond b 1 0) (eq-eqb n.0 h.node.0 same)

so_many_elsewhere : (n : NodeId) (past : List Happening) (h : Happening) → happens_at n h ≡ false → so_many n (past ++ h ∷ []) ≡ so_many n past
so_many_elsewhere n past h other =
    let at : so_many n (past ++ h ∷ []) ≡ so_many n past + 0 = so_many_push n past h ∙ ap (λ (b : Bool). so_many n past + cond b 1 0) other in
    omega (arith, at)

-- a clock has 16 counts, and knows no more than has happened
pub record IsOf (past : List Happening) (c : Clock) : Type 0 where
  pub wide : length c.counts ≡ 16
  pub low : (n : NodeId) → count_at c n ≤ so_many n past

nothing_is : (past : List Happening) → IsOf past nothing
nothing_is past = record { wide = refl; low = λ n. let none : count_at nothing n ≡ 0 = zero_at 16 n.0 in omega (arith, none) }

later : (past : List Happening) (h : Happening) (c : Clock) → IsOf past c → IsOf (past ++ h ∷ []) c
later past h c is = record { wide = is.wide; low = λ n. let low = is.low n in let more = so_many_more n past h in omega (arith, low, more) }

-- ---- what two clocks know

same_width : (past : List Happening) (c d : Clock) → IsOf past c → IsOf past d → length c.counts ≡ length d.counts
same_width past c d is more = is.wide ∙ sym more.wide

joined_is : (past : List Happening) (c d : Clock) → IsOf past c → IsOf past d → IsOf past (joined c d)
joined_is past c d is more =
    record {
      wide = length_greater c.counts d.counts ∙ is.wide;
      low = λ n.
          let at = greater_at c.counts d.counts n.0 (same_width past c d is more) in
          let low : max (count_at c n) (count_at d n) ≤ so_many n past = max-le (is.low n) (more.low n) in
          subst (λ (k : ℕ). k ≤ so_many n past) (sym at) low;
    }

joined_left : (past : List Happening) (c d : Clock) → IsOf past c → IsOf past d → KnowsAll c (joined c d)
joined_left past c d is more = λ n.
    let at = greater_at c.counts d.counts n.0 (same_width past c d is more) in
    subst (λ (k : ℕ). count_at c n ≤ k) (sym at) (le-max_left (count_at c n) (count_at d n))

joined_right : (past : List Happening) (c d : Clock) → IsOf past c → IsOf past d → KnowsAll d (joined c d)
joined_right past c d is more = λ n.
    let at = greater_at c.counts d.counts n.0 (same_width past c d is more) in
    subst (λ (k : ℕ). count_at d n ≤ k) (sym at) (le-max_right (count_at c n) (count_at d n))

IsOfSome : List Happening → Option Clock → Type 0
IsOfSome past o = (c : Clock) → o ≡ Some c → IsOf past c

with_is : (past : List Happening) (c : Clock) (o : Option Clock) → IsOf past c → IsOfSome past o → IsOf past (joined_with c o)
unfolding IsOfSome
with_is past c None is more = is
with_is past c (Some d) is more = joined_is past c d is (more d refl)

with_left : (past : List Happening) (c : Clock) (o : Option Clock) → IsOf past c → IsOfSome past o → KnowsAll c (joined_with c o)
unfolding IsOfSome
with_left past c None is more = λ n. omega arith
with_left past c (Some d) is more = joined_left past c d is (more d refl)

with_right : (past : List Happening) (c d : Clock) (o : Option Clock) → IsOf past c → IsOfSome past o → o ≡ Some d → KnowsAll d (joined_with c o)
unfolding IsOfSome
with_right past c d None is more e = absurd (cc)
with_right past c d (Some x) is more e =
    let same : x ≡ d = cc in
    subst (λ (y : Clock). KnowsAll y (joined c x)) same (joined_right past c x is (more x refl))

pub trans_all : (b c d : Clock) → KnowsAll b c → KnowsAll c d → KnowsAll b d
trans_all b c d bc cd = λ n. let x = bc n in let y = cd n in omega (arith, x, y)

-- one happening more
pub counted_more : (c : Clock) (n : NodeId) → KnowsAll c (counted n c)
counted_more c n = λ m. by_test m (eqb m.0 n.0) refl
  where
    by_test : (m : NodeId) (b : Bool) → eqb m.0 n.0 ≡ b → count_at c m ≤ count_at (counted n c) m
    by_test m true is = set_more c.counts n.0 m.0 (eqb-true m.0 n.0 is)
      where
        set_more : (counts : List ℕ) (k j : ℕ) → j ≡ k → slice_index counts j ≤ slice_index (slice_set counts k (slice_index counts k + 1)) j
        set_more [] k j e = omega arith
        set_more (x ∷ xs) zero zero e = omega arith
        set_more (x ∷ xs) zero (suc j) e = absurd (omega (arith, e))
        set_more (x ∷ xs) (suc k) zero e = absurd (omega (arith, e))
        set_more (x ∷ xs) (suc k) (suc j) e = set_more xs k j (omega (arith, e))
    by_test m false is =
        let other : (m.0 ≡ n.0 → ⊥) = λ e. let yes = eq-eqb m.0 n.0 e in absurd (cc) in
        let same : count_at (counted n c) m ≡ count_at c m = get_or-set_other c.counts n.0 m.0 (count_at c n + 1) 0 other in
        omega (arith, same)

counted_is : (past : List Happening) (h : Happening) (c : Clock) → IsOf past c → IsOf (past ++ h ∷ []) (counted h.node c)
counted_is past h c is = record { wide = length-set c.counts h.node.0 (count_at c h.node + 1) ∙ is.wide; low = λ n. by_test n (happens_at n h) refl }
  where
    by_test : (n : NodeId) (b : Bool) → happens_at n h ≡ b → count_at (counted h.node c) n ≤ so_many n (past ++ h ∷ [])
    by_test n true at =
        let same = eqb-true n.0 h.node.0 at in
        let here : count_at (counted h.node c) n ≤ count_at c n + 1 = subst (λ (k : ℕ). slice_index (slice_set c.counts k (slice_index c.counts k + 1)) n.0 ≤ slice_index c.counts n.0 + 1) same (set_low c.counts n.0 (count_at c n + 1)) in
        let low = is.low n in
        let more = so_many_here n past h same in
        omega (arith, here, low, more)
    by_test n false at =
        let other : (n.0 ≡ h.node.0 → ⊥) = λ e. let yes = eq-eqb n.0 h.node.0 e in absurd (cc) in
        let same : count_at (counted h.node c) n ≡ count_at c n = get_or-set_other c.counts h.node.0 n.0 (count_at c h.node + 1) 0 other in
        let low = is.low n in
        let more = so_many_more n past h in
        omega (arith, same, low, more)

-- ---- what is known

-- at no node, and to none of these happenings, more is known than has happened, and at each node all that has happened there
pub record Stands (past : List Happening) (k : Known) : Type 0 where
  pub long : length k.clocks ≡ length past
  pub nodes : length k.nodes ≡ 16
  pub at_node : (n : ℕ) (c : Clock) → slice_get k.nodes n ≡ Some c → IsOf past c
  pub at_clock : (place : ℕ) (c : Clock) → slice_get k.clocks place ≡ Some c → IsOf past c
  pub own : (n : NodeId) → n.0 < 16 → count_at (known_at k.nodes n) n ≡ so_many n past

some_or_none : {X : Type 0} (o : Option X) → (o ≡ None) ⊎ ((x : X) × (o ≡ Some x))
some_or_none None = inl refl
some_or_none (Some x) = inr (x, refl)

known_is : (past : List Happening) (k : Known) (n : NodeId) → Stands past k → IsOf past (known_at k.nodes n)
known_is past k n s =
    ⊎_elim
    (λ (none : slice_get k.nodes n.0 ≡ None). subst (λ (o : Option Clock). IsOf past (unwrap_or o nothing)) (sym none) (nothing_is past))
    (λ (some : (c : Clock) × (slice_get k.nodes n.0 ≡ Some c)).
    subst (λ (o : Option Clock). IsOf past (unwrap_or o nothing)) (sym some.1) (s.at_node n.0 some.0 some.1))
    (some_or_none (slice_get k.nodes n.0))

there_is : (past : List Happening) (k : Known) (reached : Option NodeId) → Stands past k → IsOfSome past (known_there k.nodes reached)
unfolding IsOfSome
there_is past k None s c e = absurd (cc)
there_is past k (Some n) s c e =
    let same : known_at k.nodes n ≡ c = cc in
    subst (IsOf past) same (known_is past k n s)

heard_is : (past : List Happening) (k : Known) (place : Option ℕ) → Stands past k → IsOfSome past (heard_from k.clocks place)
unfolding IsOfSome
heard_is past k None s c e = absurd (cc)
heard_is past k (Some place) s c e = s.at_clock place c e

here_is : (past : List Happening) (k : Known) (h : Happening) → Stands past k → IsOf past (joined_with (known_at k.nodes h.node) (known_there k.nodes h.reached))
here_is past k h s = with_is past (known_at k.nodes h.node) (known_there k.nodes h.reached) (known_is past k h.node s) (there_is past k h.reached s)

before_is : (past : List Happening) (k : Known) (h : Happening) → Stands past k → IsOf past (before k h)
before_is past k h s =
    with_is past (joined_with (known_at k.nodes h.node) (known_there k.nodes h.reached)) (heard_from k.clocks h.hears) (here_is past k h s)
    (heard_is past k h.hears s)

here_before : (past : List Happening) (k : Known) (h : Happening) → Stands past k →
    KnowsAll (joined_with (known_at k.nodes h.node) (known_there k.nodes h.reached)) (before k h)
here_before past k h s =
    with_left past (joined_with (known_at k.nodes h.node) (known_there k.nodes h.reached)) (heard_from k.clocks h.hears) (here_is past k h s)
    (heard_is past k h.hears s)

node_before : (past : List Happening) (k : Known) (h : Happening) → Stands past k → KnowsAll (known_at k.nodes h.node) (before k h)
node_before past k h s =
    trans_all (known_at k.nodes h.node) (joined_with (known_at k.nodes h.node) (known_there k.nodes h.reached)) (before k h)
    (with_left past (known_at k.nodes h.node) (known_there k.nodes h.reached) (known_is past k h.node s) (there_is past k h.reached s))
    (here_before past k h s)

there_before : (past : List Happening) (k : Known) (h : Happening) (n : NodeId) → Stands past k → h.reached ≡ Some n →
    KnowsAll (known_at k.nodes n) (before k h)
there_before past k h n s e =
    trans_all (known_at k.nodes n) (joined_with (known_at k.nodes h.node) (known_there k.nodes h.reached)) (before k h)
    (with_right past (known_at k.nodes h.node) (known_at k.nodes n) (known_there k.nodes h.reached) (known_is past k h.node s) (there_is past k h.reached s)
    (ap (known_there k.nodes) e))
    (here_before past k h s)

pub heard_before : (past : List Happening) (k : Known) (h : Happening) (place : ℕ) (c : Clock) → Stands past k → h.hears ≡ Some place →
    slice_get k.clocks place ≡ Some c → KnowsAll c (before k h)
heard_before past k h place c s e at =
    with_right past (joined_with (known_at k.nodes h.node) (known_there k.nodes h.reached)) c (heard_from k.clocks h.hears) (here_is past k h s)
    (heard_is past k h.hears s) (ap (heard_from k.clocks) e ∙ at)

-- what is known at a node has an equal
known_as : (nodes : List Clock) (n m : NodeId) → n.0 ≡ m.0 → known_at nodes n ≡ known_at nodes m
known_as nodes n m e = ap (λ (place : ℕ). unwrap_or (slice_get nodes place) nothing) e

count_as : (c : Clock) (n m : NodeId) → n.0 ≡ m.0 → count_at c n ≡ count_at c m
count_as c n m e = ap (λ (place : ℕ). slice_index c.counts place) e

-- a happening that touches a node knows all that was known there
or_cases : (a b : Bool) → (a || b) ≡ true → (a ≡ true) ⊎ (b ≡ true)
or_cases true b h = inl refl
or_cases false b h = inr h

reached_at : (n : NodeId) (o : Option NodeId) → is_node n o ≡ true → (m : NodeId) × ((o ≡ Some m) × (n.0 ≡ m.0))
reached_at n None h = absurd (cc)
reached_at n (Some m) h = (m, (refl, eqb-true n.0 m.0 h))

pub touched_before : (past : List Happening) (k : Known) (h : Happening) (n : NodeId) → Stands past k → touches n h ≡ true →
    KnowsAll (known_at k.nodes n) (before k h)
touched_before past k h n s t =
    ⊎_elim
    (λ (at : happens_at n h ≡ true).
    subst (λ (c : Clock). KnowsAll c (before k h)) (sym (known_as k.nodes n h.node (eqb-true n.0 h.node.0 at))) (node_before past k h s))
    (λ (at : is_node n h.reached ≡ true).
    let there = reached_at n h.reached at in
    subst (λ (c : Clock). KnowsAll c (before k h)) (sym (known_as k.nodes n there.0 there.1.1)) (there_before past k h there.0 s there.1.0))
    (or_cases (happens_at n h) (is_node n h.reached) t)

-- its own count
own_before : (past : List Happening) (k : Known) (h : Happening) (n : NodeId) → Stands past k → touches n h ≡ true → n.0 < 16 →
    count_at (before k h) n ≡ so_many n past
own_before past k h n s t low =
    let most = (before_is past k h s).low n in
    let least = touched_before past k h n s t n in
    let own = s.own n low in
    omega (arith, most, least, own)

pub own_clock : (past : List Happening) (k : Known) (h : Happening) (n : NodeId) → Stands past k → touches n h ≡ true → n.0 < 16 →
    count_at (clock k h) n ≡ so_many n (past ++ h ∷ [])
own_clock past k h n s t low = by_test (happens_at n h) refl
  where
    by_test : (b : Bool) → happens_at n h ≡ b → count_at (clock k h) n ≡ so_many n (past ++ h ∷ [])
    by_test true at =
        let same = eqb-true n.0 h.node.0 at in
        let wide = (before_is past k h s).wide in
        let here : count_at (clock k h) h.node ≡ count_at (before k h) h.node + 1 =
        set_here (before k h).counts h.node.0 (count_at (before k h) h.node + 1) (omega (arith, wide, same, low)) in
        let as_clock = count_as (clock k h) n h.node same in
        let as_before = count_as (before k h) n h.node same in
        let own = own_before past k h n s t low in
        let more = so_many_here n past h same in
        omega (arith, here, as_clock, as_before, own, more)
    by_test false at =
        let other : (n.0 ≡ h.node.0 → ⊥) = λ e. let yes = eq-eqb n.0 h.node.0 e in absurd (cc) in
        let same : count_at (clock k h) n ≡ count_at (before k h) n =
        get_or-set_other (before k h).counts h.node.0 n.0 (count_at (before k h) h.node + 1) 0 other in
        same ∙ own_before past k h n s t low ∙ sym (so_many_elsewhere n past h at)

-- ---- what the nodes are told

told_case : (P : Clock → Type 0) (nodes : List Clock) (m n : NodeId) (c : Clock) → n.0 < length nodes → (n.0 ≡ m.0 → P c) →
    (eqb n.0 m.0 ≡ false → P (known_at nodes n)) → P (known_at (told nodes m c) n)
told_case P nodes m n c low here there = by_test (eqb n.0 m.0) refl
  where
    by_test : (b : Bool) → eqb n.0 m.0 ≡ b → P (known_at (told nodes m c) n)
    by_test true at =
        let same = eqb-true n.0 m.0 at in
        let is : known_at (told nodes m c) n ≡ c =
        ap (λ (place : ℕ). unwrap_or (slice_get (slice_set nodes place c) n.0) nothing) (sym same)
        ∙ ap (λ (o : Option Clock). unwrap_or o nothing) (slice_get-set_here nodes n.0 c low) in
        subst P (sym is) (here same)
    by_test false at =
        let other : (n.0 ≡ m.0 → ⊥) = λ e. let yes = eq-eqb n.0 m.0 e in absurd (cc) in
        subst P (sym (ap (λ (o : Option Clock). unwrap_or o nothing) (slice_get-set_elsewhere nodes m.0 n.0 c other))) (there at)

pub or_left : (a b : Bool) → a ≡ true → (a || b) ≡ true
or_left true b h = refl
or_left false b h = absurd (cc)

or_right : (a b : Bool) → b ≡ true → (a || b) ≡ true
or_right true b h = refl
or_right false b h = h

or_none : (a b : Bool) → a ≡ false → b ≡ false → (a || b) ≡ false
or_none true b h g = absurd (cc)
or_none false b h g = g

pub told_by_case : (P : Clock → Type 0) (nodes : List Clock) (h : Happening) (c : Clock) (n : NodeId) → n.0 < length nodes → (touches n h ≡ true → P c) →
    (touches n h ≡ false → P (known_at nodes n)) → P (known_at (told_by nodes h c) n)
told_by_case P nodes h c n low here there = by_reached h.reached refl
  where
    first : (o : Option NodeId) → h.reached ≡ o → is_node n o ≡ false → P (known_at (told nodes h.node c) n)
    first o e none =
        told_case P nodes h.node n c low (λ same. here (or_left (happens_at n h) (is_node n h.reached) (eq-eqb n.0 h.node.0 same)))
        (λ other. there (or_none (happens_at n h) (is_node n h.reached) other (ap (is_node n) e ∙ none)))

    by_reached : (o : Option NodeId) → h.reached ≡ o → P (known_at (told_there (told nodes h.node c) o c) n)
    by_reached None e = first None e refl
    by_reached (Some m) e =
        told_case P (told nodes h.node c) m n c (subst (λ (k : ℕ). n.0 < k) (sym (length-set nodes h.node.0 c)) low)
        (λ same. here (or_right (happens_at n h) (is_node n h.reached) (ap (is_node n) e ∙ eq-eqb n.0 m.0 same)))
        (λ other. first (Some m) e other)

-- ---- one happening more

touched_wide : (past : List Happening) (k : Known) (h : Happening) → Stands past k → length (told_by k.nodes h (clock k h)) ≡ 16
touched_wide past k h s = by_reached h.reached
  where
    by_reached : (o : Option NodeId) → length (told_there (told k.nodes h.node (clock k h)) o (clock k h)) ≡ 16
    by_reached None = length-set k.nodes h.node.0 (clock k h) ∙ s.nodes
    by_reached (Some m) = length-set (told k.nodes h.node (clock k h)) m.0 (clock k h) ∙ length-set k.nodes h.node.0 (clock k h) ∙ s.nodes

told_is : (past : List Happening) (nodes : List Clock) (m : NodeId) (c : Clock) → IsOf past c → ((n : ℕ) (d : Clock) → slice_get nodes n ≡ Some d → IsOf past d) →
    (n : ℕ) (d : Clock) → slice_get (told nodes m c) n ≡ Some d → IsOf past d
told_is past nodes m c is each n d at =
    ⊎_elim (λ (here : (n ≡ m.0) × (d ≡ c)). subst (IsOf past) (sym here.1) is)
    (λ (there : (n ≡ m.0 → ⊥) × (slice_get nodes n ≡ Some d)). each n d there.1)
    (slice_get-set_cases nodes m.0 n c d at)

told_there_is : (past : List Happening) (nodes : List Clock) (o : Option NodeId) (c : Clock) → IsOf past c →
    ((n : ℕ) (d : Clock) → slice_get nodes n ≡ Some d → IsOf past d) →
    (n : ℕ) (d : Clock) → slice_get (told_there nodes o c) n ≡ Some d → IsOf past d
told_there_is past nodes None c is each = each
told_there_is past nodes (Some m) c is each = told_is past nodes m c is each

clock_is : (past : List Happening) (k : Known) (h : Happening) → Stands past k → IsOf (past ++ h ∷ []) (clock k h)
clock_is past k h s = counted_is past h (before k h) (before_is past k h s)

not_at : (a b : Bool) → (a || b) ≡ false → a ≡ false
not_at true b h = absurd (cc)
not_at false b h = refl

pub stands_next : (past : List Happening) (k : Known) (h : Happening) → Stands past k → Stands (past ++ h ∷ []) (learned k h)
stands_next past k h s =
    let c = clock k h in
    let is = clock_is past k h s in
    let all = past ++ h ∷ [] in
    record {
      long = length_push k.clocks c ∙ ap (λ (n : ℕ). n + 1) s.long ∙ sym (length_push past h);
      nodes = touched_wide past k h s;
      at_node = told_there_is all (told k.nodes h.node c) h.reached c is
          (told_is all k.nodes h.node c is (λ n d at. later past h d (s.at_node n d at)));
      at_clock = λ place d at.
          ⊎_elim (λ (old : slice_get k.clocks place ≡ Some d). later past h d (s.at_clock place d old))
          (λ (last : (place ≡ length k.clocks) × (d ≡ c)). subst (IsOf all) (sym last.1) is)
          (slice_get-push_cases k.clocks c place d at);
      own = λ n low.
          let few = s.nodes in
          told_by_case (λ (d : Clock). count_at d n ≡ so_many n all) k.nodes h c n (omega (arith, few, low)) (λ touched. own_clock past k h n s touched low)
          (λ other. s.own n low ∙ sym (so_many_elsewhere n past h (not_at (happens_at n h) (is_node n h.reached) other)));
    }

pub stands_begun : Stands [] unknown
stands_begun =
    record {
      long = refl;
      nodes = refl;
      at_node = λ n c at. all_nothing 16 n c at;
      at_clock = λ place c at. absurd (cc);
      own = λ n low. none_known 16 n.0;
    }
  where
    all_nothing : (m n : ℕ) (c : Clock) → slice_get (replicate m nothing) n ≡ Some c → IsOf [] c
    all_nothing zero n c at = absurd (cc)
    all_nothing (suc m) zero c at = let same : nothing ≡ c = cc in subst (IsOf []) same (nothing_is [])
    all_nothing (suc m) (suc n) c at = all_nothing m n c at

    none_at : (o : Option Clock) → ((c : Clock) → o ≡ Some c → c ≡ nothing) → (n : ℕ) → slice_index (unwrap_or o nothing).counts n ≡ 0
    none_at None all n = zero_at 16 n
    none_at (Some c) all n = ap (λ (d : Clock). slice_index d.counts n) (all c refl) ∙ zero_at 16 n

    same_nothing : (m n : ℕ) (c : Clock) → slice_get (replicate m nothing) n ≡ Some c → c ≡ nothing
    same_nothing zero n c at = absurd (cc)
    same_nothing (suc m) zero c at = cc
    same_nothing (suc m) (suc n) c at = same_nothing m n c at

    none_known : (m n : ℕ) → slice_index (unwrap_or (slice_get (replicate m nothing) n) nothing).counts n ≡ 0
    none_known m n = none_at (slice_get (replicate m nothing) n) (same_nothing m n) n

-- ---- all of them

-- what holds of what is known behind some happenings, and stays so with each one more, holds behind all of them
pub all_known : (P : List Happening → Known → Type 0) → ((past : List Happening) (k : Known) (h : Happening) → P past k → P (past ++ h ∷ []) (learned k h)) →
    (past more : List Happening) (k : Known) → P past k → P (past ++ more) (fold learned k more)
all_known P next past [] k p = subst (λ (l : List Happening). P l k) (sym (append-nil past)) p
all_known P next past (h ∷ more) k p =
    subst (λ (l : List Happening). P l (fold learned (learned k h) more)) (append_assoc past (h ∷ []) more)
    (all_known P next (past ++ h ∷ []) more (learned k h) (next past k h p))

stands : (happenings : List Happening) → Stands happenings (known happenings)
stands happenings = all_known Stands stands_next [] happenings unknown stands_begun

-- a happening more can be counted
pub few_known : (k : Known) (past : List Happening) (h : Happening) → k ≡ known past → length past + 1 < 2 ^ 32 → count_at (before k h) h.node + 1 < 2 ^ 32
few_known k past h e few =
    let low = (before_is past (known past) h (stands past)).low h.node in
    let most = count_by-le-length (happens_at h.node) past in
    let same : count_at (before k h) h.node ≡ count_at (before (known past) h) h.node = ap (λ (z : Known). count_at (before z h) h.node) e in
    omega (arith, low, most, same, few)
