-- The log of an endpoint whose seats are gathered.
use Rattle.std.proofs.Common.{◌≡◌, ◌⊎◌, ⊎_elim, ℕ, ◌<◌, ◌==◌, Bool, true, false, cond, List, [], ◌∷◌, ◌++◌, length, refl, sym, ap, ◌∙◌, subst, arith}
use Rattle.std.proofs.Common.{append_assoc, append-nil, length-append, eq-eqb, true≢false, Contains}
use Rattle.am_names.specs.declared.EndpointId.{EndpointId}
use Rattle.am_office_entries.specs.declared.Entry.{Entry}
use Rattle.am_office_entries.specs.Entries.{touches}
use Rattle.am_model.specs.Layout.{AllAre}
use Rattle.am_model.specs.History.{EachAfter}
use Rattle.am_model.proofs.Each.{each_append}
use Rattle.am_model.proofs.Alls.{all_push}
use Rattle.am_model_merge.specs.Logs.{IsRising}
use Rattle.am_model_merge.proofs.Sorted.{Has, contains_has, filter_has, has_contains, has_filter, has_append, has_first, has_last}
use Rattle.am_places.specs.Rule.{joined}
use Rattle.am_places.specs.declared.board.Tenure.{Tenure}
use Rattle.am_workers_laws.specs.Phases.Tenures.{IsAboveAll, IsEndOf, IsLogOf, IsSeat, RisesFor, own}

-- ---- tenures that a seat hasn't added

no_length : (xs : List Entry) → length xs ≡ 0 → xs ≡ []
no_length [] h = refl
no_length (x ∷ xs) h = absurd (omega (arith, h))

both_empty : (xs ys : List Entry) → xs ++ ys ≡ [] → (xs ≡ []) × (ys ≡ [])
both_empty [] ys h = (refl, h)
both_empty (x ∷ xs) ys h = absurd (cc)

pub nothing_added : (xs ys : List Entry) → xs ++ ys ≡ xs → ys ≡ []
nothing_added xs ys h = no_length ys (let e : length (xs ++ ys) ≡ length xs = ap length h in omega (arith, e, length-append xs ys))

pub own_append : (m : ℕ) (ts us : List (Tenure Entry)) → own m (ts ++ us) ≡ own m ts ++ own m us
own_append m [] us = refl
own_append m (t ∷ ts) us = by_test (t.by == m) (own_append m ts us)
  where
    by_test : (b : Bool) → own m (ts ++ us) ≡ own m ts ++ own m us →
        cond b (t.items ++ own m (ts ++ us)) (own m (ts ++ us)) ≡ cond b (t.items ++ own m ts) (own m ts) ++ own m us
    by_test true more = ap (λ (xs : List Entry). t.items ++ xs) more ∙ sym (append_assoc t.items (own m ts) (own m us))
    by_test false more = more

no_items : (m : ℕ) (past : List Entry) (ts : List (Tenure Entry)) → own m ts ≡ [] → RisesFor m past ts
no_items m past [] h = tt
no_items m past (t ∷ ts) h = by_test (t.by == m) refl h (no_items m (past ++ t.items) ts)
  where
    by_test : (b : Bool) → (t.by == m) ≡ b → cond b (t.items ++ own m ts) (own m ts) ≡ [] → (own m ts ≡ [] → RisesFor m (past ++ t.items) ts) →
        (t.by ≡ m → EachAfter IsAboveAll past t.items) × RisesFor m (past ++ t.items) ts
    by_test true is g more =
        let none = both_empty t.items (own m ts) g in ((λ same. subst (EachAfter IsAboveAll past) (sym none.0) tt), more none.1)
    by_test false is g more = ((λ same. absurd (true≢false (sym (eq-eqb t.by m same) ∙ is))), more g)

pub rises_more : (m : ℕ) (past : List Entry) (ts us : List (Tenure Entry)) → RisesFor m past ts → own m us ≡ [] → RisesFor m past (ts ++ us)
rises_more m past [] us h none = no_items m past us none
rises_more m past (t ∷ ts) us h none = (h.0, rises_more m (past ++ t.items) ts us h.1 none)

-- ---- the stamps of the log rise

all_above : (seats : ℕ) (past : List Entry) (ts : List (Tenure Entry)) → AllAre (λ (t : Tenure Entry). (t.items ≡ []) ⊎ IsSeat seats t.by) ts →
    ((m : ℕ) → IsSeat seats m → RisesFor m past ts) → EachAfter IsAboveAll past (joined ts)
all_above seats past [] each rises = tt
all_above seats past (t ∷ ts) each rises =
    each_append IsAboveAll past t.items (joined ts)
    (⊎_elim (λ (none : t.items ≡ []). subst (EachAfter IsAboveAll past) (sym none) tt) (λ (seat : IsSeat seats t.by). (rises t.by seat).0 refl) each.0)
    (all_above seats (past ++ t.items) ts each.1 (λ m seat. (rises m seat).1))

rising_push : (xs : List Entry) (x : Entry) → IsRising xs → IsAboveAll xs x → IsRising (xs ++ x ∷ [])
rising_push [] x h more = (tt, tt)
rising_push (y ∷ ys) x h more = (all_push (λ (z : Entry). y.stamp < z.stamp) ys x h.0 more.0, rising_push ys x h.1 more.1)

rising_from : (past xs : List Entry) → IsRising past → EachAfter IsAboveAll past xs → IsRising (past ++ xs)
rising_from past [] h each = subst IsRising (sym (append-nil past)) h
rising_from past (x ∷ xs) h each = subst IsRising (append_assoc past (x ∷ []) xs) (rising_from (past ++ x ∷ []) xs (rising_push past x h each.0) each.1)

-- ---- its entries

own_here : (m : ℕ) (t : Tenure Entry) (ts : List (Tenure Entry)) (x : Entry) → t.by ≡ m → Has t.items x → Has (own m (t ∷ ts)) x
own_here m t ts x same h = subst (λ (b : Bool). Has (cond b (t.items ++ own m ts) (own m ts)) x) (sym (eq-eqb t.by m same)) (has_first t.items (own m ts) x h)

own_there : (m : ℕ) (t : Tenure Entry) (ts : List (Tenure Entry)) (x : Entry) → Has (own m ts) x → Has (own m (t ∷ ts)) x
own_there m t ts x h = by_test (t.by == m)
  where
    by_test : (b : Bool) → Has (cond b (t.items ++ own m ts) (own m ts)) x
    by_test true = has_last t.items (own m ts) x h
    by_test false = h

pub own_in : (m : ℕ) (ts : List (Tenure Entry)) (x : Entry) → Has (own m ts) x → Has (joined ts) x
own_in m [] x h = absurd h
own_in m (t ∷ ts) x h = by_test (t.by == m) h (own_in m ts x)
  where
    by_test : (b : Bool) → Has (cond b (t.items ++ own m ts) (own m ts)) x → (Has (own m ts) x → Has (joined ts) x) → Has (t.items ++ joined ts) x
    by_test true g more = ⊎_elim (λ (a : Has t.items x). has_first t.items (joined ts) x a) (λ (b : Has (own m ts) x). has_last t.items (joined ts) x (more b))
        (has_append t.items (own m ts) x g)
    by_test false g more = has_last t.items (joined ts) x (more g)

-- who added an entry
record IsAddedBy (seats : ℕ) (ts : List (Tenure Entry)) (x : Entry) : Type 0 where
  pub m : ℕ
  pub seat : IsSeat seats m
  pub has : Has (own m ts) x

added_by : (seats : ℕ) (ts : List (Tenure Entry)) (x : Entry) → AllAre (λ (t : Tenure Entry). (t.items ≡ []) ⊎ IsSeat seats t.by) ts → Has (joined ts) x →
    IsAddedBy seats ts x
added_by seats [] x each h = absurd h
added_by seats (t ∷ ts) x each h =
    ⊎_elim
    (λ (here : Has t.items x).
    ⊎_elim (λ (none : t.items ≡ []). absurd (subst (λ (xs : List Entry). Has xs x) none here)) (λ (seat : IsSeat seats t.by). record {
      m = t.by;
      seat = seat;
      has = own_here t.by t ts x refl here;
    }) each.0)
    (λ (there : Has (joined ts) x). (let a = added_by seats ts x each.1 there in record { m = a.m; seat = a.seat; has = own_there a.m t ts x a.has }))
    (has_append t.items (joined ts) x h)

pub tenures_log : (seats : ℕ) (made : ℕ → List Entry) (e : EndpointId) (final : List (Tenure Entry)) → IsEndOf seats made e final →
    IsLogOf seats made e (joined final)
tenures_log seats made e final end =
    record {
      rising = rising_from [] (joined final) tt (all_above seats [] final end.gathered.each rises);
      entries = λ x. ((λ c. to x c), (λ a. from x a.0 a.1 a.2 a.3));
    }
  where
    rises : (m : ℕ) → IsSeat seats m → RisesFor m [] final
    rises m seat =
        let more = end.gathered.begins m seat in
        let none : own m more.0 ≡ [] = nothing_added (own m (end.seen m)) (own m more.0) (sym (own_append m (end.seen m) more.0) ∙ ap (own m) (sym more.1)
        ∙ end.gathered.all m seat) in
        subst (RisesFor m []) (sym more.1) (rises_more m [] (end.seen m) more.0 (end.rises m seat) none)

    to : (x : Entry) → Contains (joined final) x → (m : ℕ) × IsSeat seats m × Contains (made m) x × (touches e x ≡ true)
    to x c =
        let a = added_by seats final x end.gathered.each (contains_has (joined final) x c) in
        let r = has_filter (touches e) (made a.m) x (subst (λ (xs : List Entry). Has xs x) (end.gathered.all a.m a.seat ∙ end.added a.m a.seat) a.has) in
        (a.m, a.seat, has_contains (made a.m) x r.0, r.1)

    from : (x : Entry) (m : ℕ) → IsSeat seats m → Contains (made m) x → touches e x ≡ true → Contains (joined final) x
    from x m seat c is =
        has_contains (joined final) x
        (own_in m final x
        (subst (λ (xs : List Entry). Has xs x) (sym (end.gathered.all m seat ∙ end.added m seat))
        (filter_has (touches e) (made m) x (contains_has (made m) x c) is)))
