-- What many seats added, once all are done.
use Rattle.std.proofs.Common.{◌≡◌, ◌≢◌, ℕ, zero, suc, ◌+◌, ◌<◌, ◌≤◌, ◌==◌, ◌||◌, Bool, true, false, List, [], ◌∷◌, ◌++◌, length, map, get_or, sym, refl, ap, ◌∙◌, subst}
use Rattle.std.proofs.Common.{⊎_elim, arith, append-nil, append_assoc, eq-eqb, ne_eqb}
use Rattle.std.proofs.lemmas.List.{length-map}
use Rattle.std.specs.Prelude.{Option, if◌then◌else◌}
use Rattle.std.specs.List.{All}
use Rattle.std.proofs.lemmas.Bool.{cases_eq, cases_lt}
use Rattle.std.proofs.lemmas.List.Elements.{All-cons, All-nil}
use mathlib.Core.Option.{some}
use lib.ListN.{get_elem?}
use Rattle.atomic_table.specs.Seated.{TableId}
use Rattle.am_places.specs.Rule.{Begins, Comes, HasGathered, IsOutside, both_known, gathered, has, joined, known_at, nothing, of, tenure}
use Rattle.am_places.specs.Seats.{pass_of}
use Rattle.am_places.specs.declared.board.Known.{Known}
use Rattle.am_places.specs.declared.board.Pass.{Pass}
use Rattle.am_places.specs.declared.board.Tenure.{Tenure}
use Rattle.am_places.specs.declared.places.Seat.{Seat}
use Rattle.am_places.proofs.Ends.{begins_longer, has-append, has_own, of-append}
use Rattle.am_places_stays.specs.Stays.{AllBy, HasAll, IsMerge, IsMergeOf, IsWaiting, added_at, gathered_all}
use Rattle.am_places_stays.proofs.Tenures.{all_own, flat, known_both, left_more, no_length, none_other, not_at, of_at, of_not, rest_none, right_more}

-- ---- the tenures that are not of a mark

module _ {I : Type 0} where
  abbrev but : ℕ → List (Tenure I) → List (Tenure I)
  but m [] = []
  but m (t ∷ ts) = if t.by == m then but m ts else t ∷ but m ts

  but_at : (m : ℕ) (t : Tenure I) (ts : List (Tenure I)) → t.by ≡ m → but m (t ∷ ts) ≡ but m ts
  but_at m t ts is = ap (λ (b : Bool). if b then but m ts else t ∷ but m ts) (eq-eqb t.by m is)

  but_not : (m : ℕ) (t : Tenure I) (ts : List (Tenure I)) → t.by ≢ m → but m (t ∷ ts) ≡ t ∷ but m ts
  but_not m t ts ne = ap (λ (b : Bool). if b then but m ts else t ∷ but m ts) (ne_eqb t.by m ne)

  none_but : (m : ℕ) (ts : List (Tenure I)) → of m (but m ts) ≡ []
  none_but m [] = refl
  none_but m (t ∷ ts) = ⊎_elim
      (λ (e : t.by ≡ m). ap (of m) (but_at m t ts e) ∙ none_but m ts)
      (λ (ne : t.by ≢ m). ap (of m) (but_not m t ts ne) ∙ of_not m t (but m ts) ne ∙ none_but m ts)
      (cases_eq t.by m)

  same_but : (m n : ℕ) (ts : List (Tenure I)) → n ≢ m → of n (but m ts) ≡ of n ts
  same_but m n [] ne = refl
  same_but m n (t ∷ ts) ne = ⊎_elim
      (λ (e : t.by ≡ m). ap (of n) (but_at m t ts e) ∙ same_but m n ts ne ∙ sym (of_not n t ts (λ is. ne (sym is ∙ e))))
      (λ (other : t.by ≢ m). ap (of n) (but_not m t ts other) ∙ ap (λ (l : List (List I)). if t.by == n then t.items ∷ l else l) (same_but m n ts ne))
      (cases_eq t.by m)

  split : (m : ℕ) (ts : List (Tenure I)) → IsMerge (flat (of m ts)) (joined (but m ts)) (joined ts)
  unfolding flat
  split m [] = (refl, refl)
  split m (t ∷ ts) = ⊎_elim
      (λ (e : t.by ≡ m). coe 0 1 (i. IsMerge (flat (sym (of_at m t ts e) i)) (joined (sym (but_at m t ts e) i)) (t.items ++ joined ts))
      (left_more t.items (flat (of m ts)) (joined (but m ts)) (joined ts) (split m ts)))
      (λ (ne : t.by ≢ m). coe 0 1 (i. IsMerge (flat (sym (of_not m t ts ne) i)) (joined (sym (but_not m t ts ne) i)) (t.items ++ joined ts))
      (right_more t.items (flat (of m ts)) (joined (but m ts)) (joined ts) (split m ts)))
      (cases_eq t.by m)

  no_marks : (ts : List (Tenure I)) → ((m : ℕ) → of m ts ≡ []) → joined ts ≡ []
  no_marks [] h = refl
  no_marks (t ∷ ts) h = absurd (not_at t.by t ts (h t.by) refl)

  both_long : (xs ys : List (Known I)) → length (both_known xs ys) ≡ length xs
  both_long [] ys = refl
  both_long (x ∷ xs) [] = refl
  both_long (x ∷ xs) (y ∷ ys) = ap (λ (n : ℕ). suc n) (both_long xs ys)

  both_seen : (k : ℕ) (xs ys : List (Known I)) → (get_or (both_known xs ys) k nothing).seen ≡ (get_or xs k nothing).seen
  both_seen k [] ys = refl
  both_seen k (x ∷ xs) [] = refl
  both_seen zero (x ∷ xs) (y ∷ ys) = refl
  both_seen (suc k) (x ∷ xs) (y ∷ ys) = both_seen k xs ys

  both_inside : (k : ℕ) (xs ys : List (Known I)) → (get_or (both_known xs ys) k nothing).inside ≡ (get_or xs k nothing).inside
  both_inside k [] ys = refl
  both_inside k (x ∷ xs) [] = refl
  both_inside zero (x ∷ xs) (y ∷ ys) = refl
  both_inside (suc k) (x ∷ xs) (y ∷ ys) = both_inside k xs ys

or_true : (b : Bool) → b || true ≡ true
or_true true = refl
or_true false = refl

module _ {I T : Type 0} where
  -- passes of seats, whose marks follow this one
  abbrev pub IsRow : ℕ → ℕ → ℕ → List (Pass I T) → Type 0
  IsRow k wide from [] = Unit {0}
  IsRow k wide from (w ∷ ws) = (w.keeps ≡ (from + 1) ∷ []) × AllBy (from + 1) (known_at k w).made × (length w.known ≡ wide) × IsRow k wide (from + 1) ws

  made_in : ℕ → ℕ → List (Pass I T) → List (List I)
  made_in k m [] = []
  made_in k m (w ∷ ws) = of m (known_at k w).made ++ made_in k m ws

  low : (k wide from m : ℕ) (ws : List (Pass I T)) → IsRow k wide from ws → m ≤ from → made_in k m ws ≡ []
  unfolding made_in
  low k wide from m [] row le = refl
  low k wide from m (w ∷ ws) row le =
      ap (λ (l : List (List I)). l ++ made_in k m ws) (none_other m (from + 1) (known_at k w).made row.1 (λ e. omega (arith, e, le)))
      ∙ low k wide (from + 1) m ws row.3 (omega (arith, le))

  high : (k wide from m : ℕ) (ws : List (Pass I T)) → IsRow k wide from ws → from + length ws < m → made_in k m ws ≡ []
  unfolding made_in
  high k wide from m [] row lt = refl
  high k wide from m (w ∷ ws) row lt =
      ap (λ (l : List (List I)). l ++ made_in k m ws) (none_other m (from + 1) (known_at k w).made row.1 (λ e. omega (arith, e, lt)))
      ∙ high k wide (from + 1) m ws row.3 (omega (arith, lt))

  rows : (k wide from : ℕ) (ws : List (Pass I T)) (log : List (Tenure I)) → IsRow k wide from ws → ((m : ℕ) → of m log ≡ made_in k m ws) →
      IsMergeOf (map (added_at k) ws) (joined log)
  unfolding made_in
  rows k wide from [] log row same = no_marks log same
  rows k wide from (w ∷ ws) log row same = (
    joined (but (from + 1) log),
    rows k wide (from + 1) ws (but (from + 1) log) row.3 others,
    subst (λ (l : List I). IsMerge l (joined (but (from + 1) log)) (joined log)) own (split (from + 1) log),
  )
    where
      others : (m : ℕ) → of m (but (from + 1) log) ≡ made_in k m ws
      others m = ⊎_elim
          (λ (e : m ≡ from + 1). ap (λ (j : ℕ). of j (but (from + 1) log)) e ∙ none_but (from + 1) log
          ∙ sym (low k wide (from + 1) m ws row.3 (omega (arith, e))))
          (λ (ne : m ≢ from + 1). same_but (from + 1) m log ne ∙ same m
          ∙ ap (λ (l : List (List I)). l ++ made_in k m ws) (none_other m (from + 1) (known_at k w).made row.1 ne))
          (cases_eq m (from + 1))

      own : flat (of (from + 1) log) ≡ added_at k w
      own = ap flat (same (from + 1)
          ∙ ap (λ (l : List (List I)). of (from + 1) (known_at k w).made ++ l) (low k wide (from + 1) (from + 1) ws row.3 (omega arith))
          ∙ append-nil (of (from + 1) (known_at k w).made)) ∙ all_own (from + 1) (known_at k w).made row.1

  -- ---- what one pass knows when it has gathered others

  seats_all : (v : Pass I T) (ws : List (Pass I T)) → (gathered_all v ws).seats ≡ v.seats
  seats_all v [] = refl
  seats_all v (w ∷ ws) = seats_all (gathered v w) ws

  long_all : (v : Pass I T) (ws : List (Pass I T)) → length (gathered_all v ws).known ≡ length v.known
  long_all v [] = refl
  long_all v (w ∷ ws) = long_all (gathered v w) ws ∙ both_long v.known w.known

  seen_all : (k : ℕ) (v : Pass I T) (ws : List (Pass I T)) → (known_at k (gathered_all v ws)).seen ≡ (known_at k v).seen
  seen_all k v [] = refl
  seen_all k v (w ∷ ws) = seen_all k (gathered v w) ws ∙ both_seen k v.known w.known

  pub inside_all : (k : ℕ) (v : Pass I T) (ws : List (Pass I T)) → (known_at k (gathered_all v ws)).inside ≡ (known_at k v).inside
  inside_all k v [] = refl
  inside_all k v (w ∷ ws) = inside_all k (gathered v w) ws ∙ both_inside k v.known w.known

  pub outside_all : (v : Pass I T) (ws : List (Pass I T)) → IsOutside v → IsOutside (gathered_all v ws)
  outside_all v ws out k near = inside_all k v ws ∙ out k (subst (λ (n : ℕ). k < n) (long_all v ws) near)

  made_all : (k wide from m : ℕ) (v : Pass I T) (ws : List (Pass I T)) → length v.known ≡ wide → k < wide → IsRow k wide from ws →
      of m (known_at k (gathered_all v ws)).made ≡ of m (known_at k v).made ++ made_in k m ws
  unfolding made_in
  made_all k wide from m v [] long near row = sym (append-nil (of m (known_at k v).made))
  made_all k wide from m v (w ∷ ws) long near row =
      made_all k wide (from + 1) m (gathered v w) ws (both_long v.known w.known ∙ long) near row.3
      ∙ ap (λ (l : List (List I)). l ++ made_in k m ws)
      (ap (λ (x : Known I). of m x.made) (known_both k v.known w.known (long ∙ sym row.2) (subst (λ (n : ℕ). k < n) (sym long) near))
      ∙ of-append m (known_at k v).made (known_at k w).made)
      ∙ append_assoc (of m (known_at k v).made) (of m (known_at k w).made) (made_in k m ws)

  keeps_all : (m : ℕ) (v : Pass I T) (ws : List (Pass I T)) → has m v.keeps ≡ true → has m (gathered_all v ws).keeps ≡ true
  keeps_all m v [] h = h
  keeps_all m v (w ∷ ws) h = keeps_all m (gathered v w) ws (has-append m v.keeps w.keeps ∙ ap (λ (b : Bool). b || has m w.keeps) h)

  keeps_row : (k wide from m : ℕ) (v : Pass I T) (ws : List (Pass I T)) → IsRow k wide from ws → from < m → m ≤ from + length ws →
      has m (gathered_all v ws).keeps ≡ true
  keeps_row k wide from m v [] row lt le = absurd (omega (arith, lt, le))
  keeps_row k wide from m v (w ∷ ws) row lt le = ⊎_elim
      (λ (e : m ≡ from + 1). keeps_all m (gathered v w) ws (has-append m v.keeps w.keeps
      ∙ ap (λ (b : Bool). has m v.keeps || b) (ap (has m) (row.0 ∙ ap (λ (j : ℕ). j ∷ []) (sym e)) ∙ has_own m) ∙ or_true (has m v.keeps)))
      (λ (ne : m ≢ from + 1). keeps_row k wide (from + 1) m (gathered v w) ws row.3 (omega (arith, lt, ne)) (omega (arith, le)))
      (cases_eq m (from + 1))

  module _ (k wide : ℕ) (v : Pass I T) (ws : List (Pass I T)) (n : ℕ) (is : n ≡ length ws + 1) (last : v.keeps ≡ n ∷ []) (seats : v.seats ≡ n)
      (long : length v.known ≡ wide) (row : IsRow k wide 0 ws) where
    pub all_gathered : HasGathered (gathered_all v ws)
    all_gathered m pos few = ⊎_elim
        (λ (e : m ≡ n). keeps_all m v ws (ap (has m) (last ∙ ap (λ (j : ℕ). j ∷ []) (sym e)) ∙ has_own m))
        (λ (ne : m ≢ n). keeps_row k wide 0 m v ws row pos (let most : m ≤ n = subst (λ (j : ℕ). m ≤ j) (seats_all v ws ∙ seats) few in
        omega (arith, most, ne, is)))
        (cases_eq m n)

    module _ {B : Type 0} (items : B → List I) (birth : B → T) (stands : B → ℕ) (moves : I → Bool) where
      pub all_come : (hand : List (ℕ × Option B)) (log : List (Tenure I)) (b : B) → k < wide → AllBy n (known_at k v).made →
          Comes items birth stands moves k (gathered_all v ws, hand) log b → HasAll k v ws (items b)
      all_come hand log b near mine comes xs began = (
        joined more,
        sym comes.stands_for
            ∙ ap joined whole,
        (
          joined (but n more),
          rows k wide 0 ws (but n more) row others,
          subst (λ (l : List I). IsMerge l (joined (but n more)) (joined more)) own (split n more),
        ),
      )
        where
          seen : Begins log (known_at k v).seen
          seen = subst (λ (l : List (Tenure I)). Begins log l) (seen_all k v ws) comes.begins

          start : Begins log (tenure 0 xs ∷ [])
          start = subst (λ (l : List (Tenure I)). Begins l (tenure 0 xs ∷ [])) (sym seen.1) (begins_longer (known_at k v).seen seen.0 (tenure 0 xs ∷ []) began)

          more : List (Tenure I)
          more = start.0

          whole : log ≡ tenure 0 xs ∷ more
          whole = start.1

          none : of 0 more ≡ []
          none = no_length (of 0 more) (let one_there : length (of 0 (tenure 0 xs ∷ more)) ≡ 1 = ap (λ (l : List (Tenure I)). length (of 0 l)) (sym whole)
              ∙ comes.opening in omega (arith, one_there))

          far : (m : ℕ) → n < m → of m more ≡ []
          far m lt = rest_none m (tenure 0 xs) more (ap (of m) (sym whole) ∙ comes.far m (subst (λ (j : ℕ). j < m) (sym (seats_all v ws ∙ seats)) lt))

          kept : (m : ℕ) → 0 < m → m ≤ n → of m more ≡ of m (known_at k v).made ++ made_in k m ws
          kept m pos few =
              sym (of_not m (tenure 0 xs) more (λ e. omega (arith, e, pos))) ∙ ap (of m) (sym whole)
              ∙ comes.own_tenures m (all_gathered m pos (subst (λ (j : ℕ). m ≤ j) (sym (seats_all v ws ∙ seats)) few))
              ∙ made_all k wide 0 m v ws long near row

          each : (m : ℕ) → m ≢ n → of m more ≡ made_in k m ws
          each zero ne = none ∙ sym (low k wide 0 0 ws row (omega arith))
          each (suc m) ne = ⊎_elim
              (λ (lt : n < suc m). far (suc m) lt ∙ sym (high k wide 0 (suc m) ws row (omega (arith, lt, is))))
              (λ (le : suc m ≤ n). kept (suc m) (omega arith) le
              ∙ ap (λ (l : List (List I)). l ++ made_in k (suc m) ws) (none_other (suc m) n (known_at k v).made mine ne))
              (cases_lt n (suc m))

          others : (m : ℕ) → of m (but n more) ≡ made_in k m ws
          others m = ⊎_elim
              (λ (e : m ≡ n). ap (λ (j : ℕ). of j (but n more)) e ∙ none_but n more ∙ sym (high k wide 0 m ws row (omega (arith, e, is))))
              (λ (ne : m ≢ n). same_but n m more ne ∙ each m ne)
              (cases_eq m n)

          own : flat (of n more) ≡ added_at k v
          own = ap flat (kept n (omega (arith, is)) (omega arith)
              ∙ ap (λ (l : List (List I)). of n (known_at k v).made ++ l) (high k wide 0 n ws row (omega (arith, is)))
              ∙ append-nil (of n (known_at k v).made)) ∙ all_own n (known_at k v).made mine

-- ---- seats in a row

pub all_wait : {B I T : Type 0} {g : _} (id : TableId) (ss : List (Seat B I T g)) →
    ((j : ℕ) (s : Seat B I T g) → get_elem? ss j ≡ some s → IsWaiting id s.token) → All (λ (s : Seat B I T g). IsWaiting id s.token) ss
all_wait {B} {I} {T} {g} id [] each = All-nil (λ (s : Seat B I T g). IsWaiting id s.token)
all_wait {B} {I} {T} {g} id (s ∷ ss) each =
    All-cons (λ (x : Seat B I T g). IsWaiting id x.token) s ss (each 0 s refl) (all_wait id ss (λ j t at. each (suc j) t at))

pub row_of : {B I T : Type 0} {g : _} (k : ℕ) (id : TableId) (from : ℕ) (ss : List (Seat B I T g)) →
    ((j : ℕ) (s : Seat B I T g) → get_elem? ss j ≡ some s → IsWaiting id s.token × ((pass_of s).mark ≡ from + j + 1)) →
    IsRow k id.slots from (map (λ (s : Seat B I T g). pass_of s) ss)
row_of {B} {I} {T} {g} k id from [] each = tt
row_of {B} {I} {T} {g} k id from (s ∷ ss) each =
    let w = (each 0 s refl).0 in
    let mark : (pass_of s).mark ≡ from + 1 = let e = (each 0 s refl).1 in omega (arith, e) in (
      w.keeps ∙ ap (λ (m : ℕ). m ∷ []) mark,
      subst (λ (m : ℕ). AllBy m (known_at k (pass_of s)).made) mark (w.own k),
      s.sized ∙ ap (λ (i : TableId). i.slots) w.table,
      row_of k id (from + 1) ss (λ j t at. let e = each (suc j) t at in (e.0, (let m = e.1 in omega (arith, m)))),
    )

module _ {B I T : Type 0} {g : _} (id : TableId) (last : Seat B I T g) (others : List (Seat B I T g)) (l : IsWaiting id last.token)
    (each : (j : ℕ) (s : Seat B I T g) → get_elem? others j ≡ some s → IsWaiting id s.token × ((pass_of s).mark ≡ j + 1))
    (marks : ((pass_of last).mark ≡ length others + 1) × ((pass_of last).seats ≡ length others + 1)) where
  abbrev v : Pass I T
  v = pass_of last

  abbrev ws : List (Pass I T)
  ws = map (λ (s : Seat B I T g). pass_of s) others

  row : (k : ℕ) → IsRow k id.slots 0 ws
  row k = row_of k id 0 others (λ j s at. let e = each j s at in (e.0, (let m = e.1 in omega (arith, m))))

  count : v.mark ≡ length ws + 1
  count = marks.0 ∙ ap (λ (n : ℕ). n + 1) (sym (length-map others (λ (s : Seat B I T g). pass_of s)))

  long : length v.known ≡ id.slots
  long = last.sized ∙ ap (λ (i : TableId). i.slots) l.table

  pub seats_gathered : HasGathered (gathered_all v ws)
  seats_gathered = all_gathered 0 id.slots v ws v.mark count l.keeps (marks.1 ∙ sym marks.0) long (row 0)

  pub seats_come : (items : B → List I) (birth : B → T) (stands : B → ℕ) (moves : I → Bool) (k : ℕ) (hand : List (ℕ × Option B)) (log : List (Tenure I)) (b : B) →
      k < id.slots → Comes items birth stands moves k (gathered_all v ws, hand) log b → HasAll k v ws (items b)
  seats_come items birth stands moves k hand log b near comes =
      all_come k id.slots v ws v.mark count l.keeps (marks.1 ∙ sym marks.0) long (row k) items birth stands moves hand log b near (l.own k) comes
