-- Messages with different serials: what some of them weigh among others, and what an entry has in a role.
use Rattle.std.proofs.Common.{◌≡◌, ℕ, zero, suc, ◌+◌, ◌-◌, ◌<◌, ◌≤◌, Bool, true, false, ◌||◌, Option, Some, None, List, [], ◌∷◌, ◌++◌, refl, sym, ap, ◌∙◌}
use Rattle.std.proofs.Common.{subst, ⊎_elim, length, get_or, count_by, filter_map, if◌then◌else◌, arith}
use Rattle.std.specs.Prelude.{MatchOption, remove, slice_get, sum_by}
use Rattle.std.specs.List.{Contains, cons_option, list_any}
use Rattle.std.proofs.lemmas.Bool.{cases_lt}
use Rattle.std.proofs.lemmas.List.Edits.{length-remove, get_or-remove_below, get_or-remove_above}
use Rattle.std.proofs.lemmas.List.Elements.{Contains-append_cases, Contains-append_left, Contains-append_right, Contains-push, filter_map-append}
use Rattle.std.proofs.lemmas.List.Sums.{get_or-le-sum_by, sum_by-cons, sum_by-remove}
use Rattle.std.proofs.lemmas.List.{get_or_default}
use Rattle.std.proofs.lemmas.Option.{get_or_from_slice_get, slice_get-get_or, slice_get_within}
use Rattle.am_lemmas.proofs.Lists.{count_by-none}
use Rattle.am_names.specs.declared.Message.{Message}
use Rattle.am_names.specs.declared.Serial.{Serial}
use Rattle.am_names.specs.Names.{has_serial}
use Rattle.am_office_entries.specs.declared.Entry.{Entry}
use Rattle.am_office_entries.specs.Entries.{accepted_of, passes, run_of}
use Rattle.am_model.specs.Layout.{Layout}
use Rattle.am_model.specs.PostOffice.{IsFirstRun, IsPutAndRunFirst, PostOffice, times}
use Rattle.am_model.proofs.Each.{over_each}
use Rattle.am_model.proofs.Names.{same_serial-refl}
use Rattle.am_library_views.proofs.Weights.{only, of, sum_listed}

count_cons : {A : Type 0} (p : A → Bool) (x : A) (xs : List A) → count_by p (x ∷ xs) ≡ only (p x) 1 + count_by p xs
count_cons p x xs = sum_by-cons (λ y. if p y then 1 else 0) x xs

-- what stands elsewhere stays when a place is removed
kept : (xs : List Message) (i : ℕ) (d y : Message) → i < length xs → Contains xs y → (y ≡ get_or xs i d → ⊥) → Contains (remove xs i) y
kept xs i d y within (j, below, is) other =
    ⊎_elim
    (λ (before : j < i). (j, omega (arith, length-remove xs i within), get_or-remove_below xs i y j before within ∙ is))
    (λ (past : i ≤ j).
    ⊎_elim
    (λ (after : i < j).
    let back : j - 1 + 1 ≡ j = omega arith in
    (j - 1, omega (arith, length-remove xs i within), get_or-remove_above xs i y (j - 1) (omega arith) within ∙ ap (λ (k : ℕ). get_or xs k y) back ∙ is))
    (λ (upto : j ≤ i).
    let same : j ≡ i = omega arith in
    absurd (other (sym is ∙ ap (λ (k : ℕ). get_or xs k y) same ∙ get_or_default xs i y d within)))
    (cases_lt i j))
    (cases_lt j i)

-- each serial at most once
abbrev pub Once : List Message → Type 0
Once xs = (s : Serial) → count_by (has_serial s) xs ≤ 1

pub own_serial : (m : Message) → has_serial m.serial m ≡ true
own_serial m = same_serial-refl m.serial

once_tail : (m : Message) (xs : List Message) → Once (m ∷ xs) → Once xs
once_tail m xs once = λ (s : Serial). omega (arith, count_cons (has_serial s) m xs, once s)

pub none_has : (s : Serial) (xs : List Message) (y : Message) → count_by (has_serial s) xs ≡ 0 → Contains xs y → has_serial s y ≡ true → ⊥
none_has s xs y none (i, below, is) has =
    let there : has_serial s (get_or xs i y) ≡ true = ap (λ (z : Message). has_serial s z) is ∙ has in
    let more : only (has_serial s (get_or xs i y)) 1 ≤ count_by (has_serial s) xs =
    get_or-le-sum_by (λ (z : Message). if has_serial s z then 1 else 0) xs i y below in
    let one : only (has_serial s (get_or xs i y)) 1 ≡ 1 = ap (λ (b : Bool). only b 1) there in
    omega (arith, more, one, none)

none_after : (x m : Message) (xs : List Message) → Once (x ∷ xs) → Contains xs m → has_serial x.serial m ≡ true → ⊥
none_after x m xs once has same =
    let own : only (has_serial x.serial x) 1 ≡ 1 = ap (λ (b : Bool). only b 1) (own_serial x) in
    let none : count_by (has_serial x.serial) xs ≡ 0 = omega (arith, count_cons (has_serial x.serial) x xs, once x.serial, own) in
    none_has x.serial xs m none has same

none_before : (x m : Message) (xs : List Message) → Once (x ∷ xs) → Contains xs m → has_serial m.serial x ≡ true → ⊥
none_before x m xs once has same =
    let own : only (has_serial m.serial x) 1 ≡ 1 = ap (λ (b : Bool). only b 1) same in
    let none : count_by (has_serial m.serial) xs ≡ 0 = omega (arith, count_cons (has_serial m.serial) x xs, once m.serial, own) in
    none_has m.serial xs m none has (own_serial m)

-- some of the messages with different serials, all of them among others, weigh at most what the same of the others weigh
pub at_most : (p : Message → Bool) (f : Message → ℕ) (xs ys : List Message) → Once xs → ((y : Message) → p y ≡ true → Contains xs y → Contains ys y) →
    sum_by (λ (m : Message). only (p m) (f m)) xs ≤ sum_by (λ (m : Message). only (p m) (f m)) ys
at_most p f [] ys once all = omega arith
at_most p f (m ∷ xs) ys once all = by_test (p m) refl (λ (zs : List Message) (in_zs : (y : Message) → p y ≡ true → Contains xs y →
    Contains zs y). at_most p f xs
    zs (once_tail m xs once) in_zs)
  where
    by_place : p m ≡ true → ((zs : List Message) → ((y : Message) → p y ≡ true → Contains xs y → Contains zs y) →
        sum_by (λ (n : Message). only (p n) (f n)) xs ≤ sum_by (λ (n : Message). only (p n) (f n)) zs) →
        Contains ys m → sum_by (λ (n : Message). only (p n) (f n)) (m ∷ xs) ≤ sum_by (λ (n : Message). only (p n) (f n)) ys
    by_place is later (i, below, at) =
        let same : only (p (get_or ys i m)) (f (get_or ys i m)) ≡ only (p m) (f m) = ap (λ (y : Message). only (p y) (f y)) at in
        let without = sum_by-remove (λ (y : Message). only (p y) (f y)) ys i m below in
        let rest : sum_by (λ (n : Message). only (p n) (f n)) xs ≤ sum_by (λ (n : Message). only (p n) (f n)) (remove ys i) =
        later (remove ys i)
        (λ (y : Message) (passes' : p y ≡ true) (has : Contains xs y).
        kept ys i m y below (all y passes' (Contains-append_right (m ∷ []) xs y has)) (λ (again : y ≡ get_or ys i m).
        none_after m y xs once has (ap (λ (z : Message). has_serial m.serial z) (again ∙ at) ∙ own_serial m))) in
        omega (arith, sum_by-cons (λ (n : Message). only (p n) (f n)) m xs, same, without, rest)

    by_test : (b : Bool) → p m ≡ b → ((zs : List Message) → ((y : Message) → p y ≡ true → Contains xs y → Contains zs y) →
        sum_by (λ (n : Message). only (p n) (f n)) xs ≤ sum_by (λ (n : Message). only (p n) (f n)) zs) →
        sum_by (λ (n : Message). only (p n) (f n)) (m ∷ xs) ≤ sum_by (λ (n : Message). only (p n) (f n)) ys
    by_test false is later =
        let none : only (p m) (f m) ≡ 0 = ap (λ (b : Bool). only b (f m)) is in
        omega (
          arith,
          sum_by-cons (λ (n : Message). only (p n) (f n)) m xs,
          none,
          later ys (λ (y : Message) (passes' : p y ≡ true) (has : Contains xs y). all y passes' (Contains-append_right (m ∷ []) xs y has)),
        )
    by_test true is later = by_place is later (all m is (Contains-append_left (m ∷ []) xs m (Contains-push [] m)))

pub only_one : (y m : Message) → Contains (y ∷ []) m → y ≡ m
only_one y m (zero, below, is) = is
only_one y m (suc k, below, is) = absurd (omega arith)

-- two of them with the same serial are one
pub unique : (xs : List Message) (a b : Message) → Once xs → Contains xs a → Contains xs b → has_serial a.serial b ≡ true → b ≡ a
unique [] a b once (k, below, is) in_b same = absurd (omega arith)
unique (x ∷ xs) a b once in_a in_b same =
    ⊎_elim
    (λ (first_a : Contains (x ∷ []) a).
    let is_a : x ≡ a = only_one x a first_a in
    ⊎_elim (λ (first_b : Contains (x ∷ []) b). sym (only_one x b first_b) ∙ is_a)
    (λ (later_b : Contains xs b). absurd (none_after x b xs once later_b (subst (λ (n : Message). has_serial n.serial b ≡ true) (sym is_a) same)))
    (Contains-append_cases (x ∷ []) xs b in_b))
    (λ (later_a : Contains xs a).
    ⊎_elim
    (λ (first_b : Contains (x ∷ []) b). absurd (none_before x a xs once later_a (subst (λ (n : Message). has_serial a.serial n ≡ true)
    (sym (only_one x b first_b)) same)))
    (λ (later_b : Contains xs b). unique xs a b (once_tail x xs once) later_a later_b same)
    (Contains-append_cases (x ∷ []) xs b in_b))
    (Contains-append_cases (x ∷ []) xs a in_a)

-- ---- the messages of a role

passes_of : (p : Message → Bool) (o : Option Message) → of (λ (m : Message). only (p m) 1) o ≡ only (passes p o) 1
passes_of p None = refl
passes_of p (Some m) = refl

pub count_role : (role : Entry → Option Message) (p : Message → Bool) (xs : List Entry) → count_by p (filter_map role xs) ≡ times role p xs
count_role role p [] = refl
count_role role p (x ∷ xs) = omega (arith, sum_listed role (λ (m : Message). only (p m) 1) (x ∷ xs), role_sum (x ∷ xs))
  where
    role_sum : (ys : List Entry) → sum_by (λ (y : Entry). of (λ (m : Message). only (p m) 1) (role y)) ys ≡ times role p ys
    role_sum [] = refl
    role_sum (y ∷ ys) = omega (
      arith,
      sum_by-cons (λ (z : Entry). of (λ (m : Message). only (p m) 1) (role z)) y ys,
      sum_by-cons (λ (z : Entry). only (passes p (role z)) 1) y ys,
      passes_of p (role y),
      role_sum ys,
    )

pub find_in : (role : Entry → Option Message) (p : Message → Bool) (journal : List Entry) → list_any (λ (x : Entry). passes p (role x)) journal ≡ true →
    (m : Message) × Contains (filter_map role journal) m × (p m ≡ true)
find_in role p [] some = absurd (cc)
find_in role p (x ∷ journal) some = by_role (find_in role p journal) (role x) refl some
  where
    later : (o : Option Message) → role x ≡ o → (m : Message) × Contains (filter_map role journal) m × (p m ≡ true) →
        (m : Message) × Contains (filter_map role (x ∷ journal)) m × (p m ≡ true)
    later o is rest = (
      rest.0,
      subst (λ (l : List Message). Contains l rest.0) (sym (filter_map-append role (x ∷ []) journal))
          (Contains-append_right (filter_map role (x ∷ [])) (filter_map role journal) rest.0 rest.1),
      rest.2,
    )

    by_pass : (list_any (λ (y : Entry). passes p (role y)) journal ≡ true → (m : Message) × Contains (filter_map role journal) m × (p m ≡ true)) →
        (m : Message) → role x ≡ Some m → (b : Bool) → p m ≡ b → (b || list_any (λ (y : Entry). passes p (role y)) journal) ≡ true →
        (m : Message) × Contains (filter_map role (x ∷ journal)) m × (p m ≡ true)
    by_pass next m is true test rest =
        let listed : filter_map role (x ∷ journal) ≡ m ∷ filter_map role journal = ap (λ (o : Option Message). cons_option o (filter_map role journal)) is in (
          m,
          subst (λ (l : List Message). Contains l m) (sym listed) (Contains-append_left (m ∷ []) (filter_map role journal) m (Contains-push [] m)),
          test,
        )
    by_pass next m is false test rest = later (Some m) is (next rest)

    by_role : (list_any (λ (y : Entry). passes p (role y)) journal ≡ true → (m : Message) × Contains (filter_map role journal) m × (p m ≡ true)) →
        (o : Option Message) → role x ≡ o → (passes p o || list_any (λ (y : Entry). passes p (role y)) journal) ≡ true →
        (m : Message) × Contains (filter_map role (x ∷ journal)) m × (p m ≡ true)
    by_role next None is rest = later None is (next rest)
    by_role next (Some m) is rest = by_pass next m is (p m) refl rest

-- what an entry has in a role is found
pub found_in : (role : Entry → Option Message) (journal : List Entry) (m : Message) → Contains (filter_map role journal) m →
    list_any (λ (x : Entry). passes (has_serial m.serial) (role x)) journal ≡ true
found_in role journal m has = by_test (list_any (λ (x : Entry). passes (has_serial m.serial) (role x)) journal) refl
  where
    by_test : (b : Bool) → list_any (λ (x : Entry). passes (has_serial m.serial) (role x)) journal ≡ b →
        list_any (λ (x : Entry). passes (has_serial m.serial) (role x)) journal ≡ true
    by_test true is = is
    by_test false is =
        let none : count_by (has_serial m.serial) (filter_map role journal) ≡ 0 = count_role role (has_serial m.serial) journal
        ∙ count_by-none (λ (x : Entry). passes (has_serial m.serial) (role x)) journal is in
        absurd (none_has m.serial (filter_map role journal) m none has (own_serial m))

pub has_at : (xs : List Message) (k : ℕ) (m : Message) → slice_get xs k ≡ Some m → Contains xs m
has_at xs k m is = (k, slice_get_within xs k m is, get_or_from_slice_get xs k m m is)

pub has_place : (xs : List Message) (m : Message) → Contains xs m → (k : ℕ) × (slice_get xs k ≡ Some m)
has_place xs m (k, below, is) = (k, slice_get-get_or xs k m below ∙ ap (λ (n : Message). Some n) is)

-- ---- what runs was accepted

abbrev AllAccepted : List Entry → Type 0
AllAccepted past = (m : Message) → Contains (filter_map run_of past) m → Contains (filter_map accepted_of past) m

nothing : (m : Message) → Contains [] m → ⊥
nothing m (k, below, is) = omega arith

accepted_step : (layout : Layout) (past : List Entry) (x : Entry) → AllAccepted past → IsPutAndRunFirst layout past x → AllAccepted (past ++ x ∷ [])
accepted_step layout past x so_far first = λ (m : Message) (has : Contains (filter_map run_of (past ++ x ∷ [])) m).
    let both : Contains (filter_map run_of past ++ filter_map run_of (x ∷ [])) m =
    subst (λ (l : List Message). Contains l m) (filter_map-append run_of past (x ∷ [])) has in
    let here : Contains (filter_map accepted_of past) m = ⊎_elim (λ (before : Contains (filter_map run_of past) m). so_far m before)
    (λ (now : Contains (filter_map run_of (x ∷ [])) m). by_run m (run_of x) refl now)
    (Contains-append_cases (filter_map run_of past) (filter_map run_of (x ∷ [])) m both) in
    subst (λ (l : List Message). Contains l m) (sym (filter_map-append accepted_of past (x ∷ [])))
    (Contains-append_left (filter_map accepted_of past) (filter_map accepted_of (x ∷ [])) m here)
  where
    by_run : (m : Message) (o : Option Message) → run_of x ≡ o → Contains (filter_map run_of (x ∷ [])) m → Contains (filter_map accepted_of past) m
    by_run m None is now = absurd (nothing m (subst (λ (o : Option Message). Contains (cons_option o []) m) is now))
    by_run m (Some y) is now =
        let same : y ≡ m = only_one y m (subst (λ (o : Option Message). Contains (cons_option o []) m) is now) in
        let run : IsFirstRun layout past x y = subst (λ (o : Option Message). MatchOption o (Unit {0}) (IsFirstRun layout past x)) is first.1 in
        subst (λ (z : Message). Contains (filter_map accepted_of past) z) same (has_at (filter_map accepted_of past) run.accepted.0 y run.accepted.1)

pub all_accepted : (layout : Layout) (journal : List Entry) → PostOffice layout journal → AllAccepted journal
all_accepted layout journal laws =
    over_each (IsPutAndRunFirst layout) AllAccepted (λ (past : List Entry) (x : Entry) (p : AllAccepted past) (first : IsPutAndRunFirst layout past x).
    accepted_step layout past x p first) [] journal
    (λ (m : Message) (has : Contains [] m). has) laws.delivery.places

pub runs_once : (layout : Layout) (journal : List Entry) → PostOffice layout journal → Once (filter_map run_of journal)
runs_once layout journal laws = λ (s : Serial).
    omega (arith, count_role run_of (has_serial s) journal, laws.delivery.counts.run s, laws.delivery.counts.put s, laws.delivery.counts.accepted s)

pub accepted_once : (layout : Layout) (journal : List Entry) → PostOffice layout journal → Once (filter_map accepted_of journal)
accepted_once layout journal laws = λ (s : Serial). omega (arith, count_role accepted_of (has_serial s) journal, laws.delivery.counts.accepted s)
