-- A seat keeps what it knows of its own, and gathered seats know who added each entry.
use Rattle.std.specs.Prelude.{drop, nat_lt}
use Rattle.std.specs.List.{filter}
use Rattle.std.proofs.Common.{◌≡◌, ◌⊎◌, inl, inr, ℕ, zero, suc, ◌<◌, ◌≤◌, ◌==◌, Bool, true, false, cond, List, [], ◌∷◌, ◌++◌, length, refl, sym, ap, ◌∙◌, subst}
use Rattle.std.proofs.Common.{arith, append_assoc, append-nil, eq-eqb, ltb-true, ltb-false}
use Rattle.std.proofs.lemmas.List.Elements.{filter-append}
use Rattle.am_model_merge.specs.Merged.{entries_of}
use lib.Seq.{drop-append_seam}
use Rattle.am_office_entries.specs.declared.Entry.{Entry}
use Rattle.am_office_entries.specs.Entries.{touches}
use Rattle.am_model.specs.Layout.{AllAre}
use Rattle.am_model.specs.History.{EachAfter}
use Rattle.am_places.specs.Rule.{joined, of, tenure}
use Rattle.am_places.specs.declared.board.Tenure.{Tenure}
use Rattle.am_workers_laws.specs.Phases.Tenures.{IsAboveAll, IsSeat, RisesFor, own}
use Rattle.am_workers_laws.specs.Phases.Seats.{Enters, Leaves, TakenIsGathered}
use Rattle.am_workers_laws.proofs.Tenures.{nothing_added, own_append, rises_more}

own_of : (m : ℕ) (ts : List (Tenure Entry)) → own m ts ≡ entries_of (of m ts)
own_of m [] = refl
own_of m (t ∷ ts) = by_test (t.by == m) (own_of m ts)
  where
    by_test : (b : Bool) → own m ts ≡ entries_of (of m ts) → cond b (t.items ++ own m ts) (own m ts) ≡ entries_of (cond b (t.items ∷ of m ts) (of m ts))
    by_test true more = ap (λ (xs : List Entry). t.items ++ xs) more
    by_test false more = more

same_own : (m : ℕ) (ts us : List (Tenure Entry)) → of m ts ≡ of m us → own m ts ≡ own m us
same_own m ts us h = own_of m ts ∙ ap entries_of h ∙ sym (own_of m us)

pub enters : Enters
enters made e m place x log k begins own_tenures =
    record {
      tenures = own_tenures;
      rises =
          subst (RisesFor m []) (sym begins.1)
          (rises_more m [] x.seen begins.0 k.rises
          (nothing_added (own m x.seen) (own m begins.0) (sym (own_append m x.seen begins.0) ∙ ap (own m) (sym begins.1) ∙ same)));
      added = same ∙ k.added;
      mine = k.mine;
      opened = (k.opened.0 ++ begins.0, begins.1 ∙ ap (λ (ts : List (Tenure Entry)). ts ++ begins.0) k.opened.1);
    }
  where
    same : own m log ≡ own m x.seen
    same = same_own m log x.seen (own_tenures ∙ sym k.tenures)

pub of_append : (m : ℕ) (ts us : List (Tenure Entry)) → of m (ts ++ us) ≡ of m ts ++ of m us
of_append m [] us = refl
of_append m (t ∷ ts) us = by_test (t.by == m) (of_append m ts us)
  where
    by_test : (b : Bool) → of m (ts ++ us) ≡ of m ts ++ of m us → cond b (t.items ∷ of m (ts ++ us)) (of m (ts ++ us)) ≡ cond b (t.items ∷ of m ts) (of m ts) ++
        of m us
    by_test true more = ap (λ (xs : List (List Entry)). t.items ∷ xs) more
    by_test false more = more

rises_push : (m : ℕ) (past : List Entry) (ts : List (Tenure Entry)) (xs : List Entry) → RisesFor m past ts → EachAfter IsAboveAll (past ++ joined ts) xs →
    RisesFor m past (ts ++ tenure m xs ∷ [])
rises_push m past [] xs h each = ((λ same. subst (λ (zs : List Entry). EachAfter IsAboveAll zs xs) (append-nil past) each), tt)
rises_push m past (t ∷ ts) xs h each = (
  h.0,
  rises_push m (past ++ t.items) ts xs h.1 (subst (λ (zs : List Entry). EachAfter IsAboveAll zs xs)
      (sym (append_assoc past t.items (joined ts))) each),
)

own_one : (m : ℕ) (xs : List Entry) → own m (tenure m xs ∷ []) ≡ xs
own_one m xs = ap (λ (b : Bool). cond b (xs ++ []) []) (eq-eqb m m refl) ∙ append-nil xs

pub leaves : Leaves
leaves made new book e m place x k n =
    record {
      tenures = of_append m x.seen (t ∷ []) ∙ ap (λ (xs : List (List Entry)). xs ++ of m (t ∷ [])) k.tenures ∙ sym (of_append m x.made (t ∷ []));
      rises = subst (λ (xs : List Entry). RisesFor m [] (x.seen ++ tenure m xs ∷ [])) (sym is)
          (rises_push m [] x.seen (filter (touches e) new) k.rises n.rises);
      added =
          own_append m x.seen (t ∷ [])
          ∙ ap (λ (xs : List Entry). own m x.seen ++ xs) (own_one m t.items ∙ is)
          ∙ ap (λ (xs : List Entry). xs ++ filter (touches e) new) k.added
          ∙ sym (filter-append (touches e) made new);
      mine = mine_push x.made k.mine;
      opened = (k.opened.0 ++ t ∷ [], ap (λ (ts : List (Tenure Entry)). ts ++ t ∷ []) k.opened.1);
    }
  where
    t : Tenure Entry
    t = tenure m (drop (length (joined x.seen)) book)

    mine_push : (ts : List (Tenure Entry)) → AllAre (λ (u : Tenure Entry). u.by ≡ m) ts → AllAre (λ (u : Tenure Entry). u.by ≡ m) (ts ++ t ∷ [])
    mine_push [] h = (refl, tt)
    mine_push (u ∷ us) h = (h.0, mine_push us h.1)

    is : drop (length (joined x.seen)) book ≡ filter (touches e) new
    is = ap (drop (length (joined x.seen))) n.longer ∙ drop-append_seam (joined x.seen) (filter (touches e) new)

-- ---- the seats of all tenures

of_zero : (ts : List (Tenure Entry)) → length (of 0 ts) ≡ 0 → AllAre (λ (t : Tenure Entry). 0 < t.by) ts
of_zero [] h = tt
of_zero (t ∷ ts) h = by_test (t.by == 0) refl h (of_zero ts)
  where
    by_test : (b : Bool) → (t.by == 0) ≡ b → length (cond b (t.items ∷ of 0 ts) (of 0 ts)) ≡ 0 →
        (length (of 0 ts) ≡ 0 → AllAre (λ (u : Tenure Entry). 0 < u.by) ts) → (0 < t.by) × AllAre (λ (u : Tenure Entry). 0 < u.by) ts
    by_test true is g more = absurd (omega (arith, g))
    by_test false is g more = (positive t.by is, more g)
      where
        positive : (n : ℕ) → (n == 0) ≡ false → 0 < n
        positive zero k = absurd (cc)
        positive (suc n) k = omega arith

of_near : (seats : ℕ) (ts : List (Tenure Entry)) → ((m : ℕ) → seats < m → of m ts ≡ []) → AllAre (λ (t : Tenure Entry). t.by ≤ seats) ts
of_near seats [] h = tt
of_near seats (t ∷ ts) h = (by_test (nat_lt seats t.by) refl, of_near seats ts (λ m above. others m (t.by == m) (h m above)))
  where
    others : (m : ℕ) (b : Bool) → cond b (t.items ∷ of m ts) (of m ts) ≡ [] → of m ts ≡ []
    others m true g = absurd (cc)
    others m false g = g

    here : of t.by (t ∷ ts) ≡ t.items ∷ of t.by ts
    here = ap (λ (b : Bool). cond b (t.items ∷ of t.by ts) (of t.by ts)) (eq-eqb t.by t.by refl)

    by_test : (b : Bool) → nat_lt seats t.by ≡ b → t.by ≤ seats
    by_test true is = absurd (let e : t.items ∷ of t.by ts ≡ [] = sym here ∙ h t.by (ltb-true seats t.by is) in cc)
    by_test false is = ltb-false seats t.by is

seats_of : (seats : ℕ) (ts : List (Tenure Entry)) → AllAre (λ (t : Tenure Entry). 0 < t.by) ts → AllAre (λ (t : Tenure Entry). t.by ≤ seats) ts →
    AllAre (λ (t : Tenure Entry). (t.items ≡ []) ⊎ IsSeat seats t.by) ts
seats_of seats [] h k = tt
seats_of seats (t ∷ ts) h k = (inr (h.0, k.0), seats_of seats ts h.1 k.1)

pub taken_is_gathered : TakenIsGathered
taken_is_gathered seats log seen taken =
    record {
      begins = taken.begins;
      all = λ m seat. same_own m log (seen m) (taken.all m seat);
      each =
          subst (AllAre (λ (t : Tenure Entry). (t.items ≡ []) ⊎ IsSeat seats t.by)) (sym taken.opens)
          (inl refl, seats_of seats taken.rest (of_zero taken.rest none) (near (of_near seats log taken.far)));
    }
  where
    none : length (of 0 taken.rest) ≡ 0
    none = let e : length (of 0 (tenure 0 [] ∷ taken.rest)) ≡ 1 = ap (λ (ts : List (Tenure Entry)). length (of 0 ts)) (sym taken.opens)
        ∙ taken.once in omega (arith, e)

    near : AllAre (λ (t : Tenure Entry). t.by ≤ seats) log → AllAre (λ (t : Tenure Entry). t.by ≤ seats) taken.rest
    near h = (subst (AllAre (λ (t : Tenure Entry). t.by ≤ seats)) taken.opens h).1
