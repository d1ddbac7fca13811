-- What a seat keeps of its node over a stay.
use Rattle.std.proofs.Common.{◌≡◌, ◌≢◌, ◌⊎◌, inl, inr, ⊎_elim, ℕ, ◌<◌, ◌==◌, Bool, true, false, cond, List, [], ◌∷◌, ◌++◌, length, drop, sym, refl, ap, ◌∙◌}
use Rattle.std.proofs.Common.{subst, append_assoc, append-nil, eq-eqb, eqb-true, get_or-set_same, get_or-set_other}
use Rattle.std.specs.List.{filter}
use Rattle.am_model.proofs.Names.{same_end-is}
use Rattle.am_names.specs.declared.EndpointId.{EndpointId}
use Rattle.am_names.specs.Names.{same_end}
use Rattle.am_office_entries.specs.declared.Entry.{Entry}
use Rattle.am_office_entries.specs.Entries.{touches}
use Rattle.am_endpoint_body.specs.declared.settings.EndSettings.{EndSettings}
use Rattle.am_model.specs.Layout.{AllAre}
use Rattle.am_workers_laws.specs.Phases.Seats.{left_with}
use Rattle.am_places.specs.Rule.{Begins, inside_with, joined, known_at, nothing}
use Rattle.am_places.specs.declared.board.Known.{Known}
use Rattle.am_places.specs.declared.board.Tenure.{Tenure}
use Rattle.am_workers_laws.proofs.Stands.{stays_keep}
use Rattle.am_workers_laws.specs.Invariants.Stands.{TouchOnly}
use Rattle.am_workers_laws.specs.Invariants.Seats.{EndPass, Ids, KnowsNode, Stays, seen_log}

-- ---- lists

pub joined_append : (ts us : List (Tenure Entry)) → joined (ts ++ us) ≡ joined ts ++ joined us
joined_append [] us = refl
joined_append (t ∷ ts) us = ap (λ (xs : List Entry). t.items ++ xs) (joined_append ts us) ∙ sym (append_assoc t.items (joined ts) (joined us))

-- ---- whose entries are

-- each of them touches the endpoint e, and no other
abbrev pub AreOf : EndpointId → List Entry → Type 0
AreOf e new = AllAre (λ (x : Entry). (d : EndpointId) → touches d x ≡ same_end d e) new

filter_own : (e : EndpointId) (new : List Entry) → AreOf e new → filter (touches e) new ≡ new
filter_own e [] h = refl
filter_own e (x ∷ xs) h = ap (λ (b : Bool). cond b (x ∷ filter (touches e) xs) (filter (touches e) xs)) (h.0 e ∙ eq-eqb e.0 e.0 refl)
    ∙ ap (λ (ys : List Entry). x ∷ ys) (filter_own e xs h.1)

filter_else : (d e : EndpointId) (new : List Entry) → same_end d e ≡ false → AreOf e new → filter (touches d) new ≡ []
filter_else d e [] ne h = refl
filter_else d e (x ∷ xs) ne h = ap (λ (b : Bool). cond b (x ∷ filter (touches d) xs) (filter (touches d) xs)) (h.0 d ∙ ne) ∙ filter_else d e xs ne h.1

end_cases : (d e : EndpointId) → (d ≡ e) ⊎ (same_end d e ≡ false)
end_cases d e = by_test (same_end d e) refl
  where
    by_test : (b : Bool) → same_end d e ≡ b → (d ≡ e) ⊎ (same_end d e ≡ false)
    by_test true h = inl (same_end-is d e h)
    by_test false h = inr h

pub only_of : (e : EndpointId) (new : List Entry) → AreOf e new → TouchOnly e new
only_of e new of = record {
  all = filter_own e new of;
  none =
      λ d ne. filter_else d e new (⊎_elim {C = same_end d e ≡ false} (λ (same : d ≡ e). absurd (ne same)) (λ (o : same_end d e ≡ false). o)
      (end_cases d e)) of;
}

-- ---- the pass after a stay

module _ (k : ℕ) (set : EndSettings) (place : ℕ) (log : List (Tenure Entry)) (new : List Entry) (v w : EndPass) where
  abbrev left_known : ℕ → Known Entry
  left_known before = left_with v.mark (joined log ++ new) place (inside_with before log (known_at k v))

  pub same_births : Stays k set place log new v w → w.births ≡ v.births
  same_births h = ap (λ (z : EndPass). z.births) h.left.1

  pub same_mark : Stays k set place log new v w → w.mark ≡ v.mark
  same_mark h = ap (λ (z : EndPass). z.mark) h.left.1

  pub same_seats : Stays k set place log new v w → w.seats ≡ v.seats
  same_seats h = ap (λ (z : EndPass). z.seats) h.left.1

  pub known_here : k < length v.known → (h : Stays k set place log new v w) → known_at k w ≡ left_known h.left.0
  known_here near h = ap (known_at k) h.left.1 ∙ get_or-set_same v.known k (left_known h.left.0) nothing near

  pub known_else : (j : ℕ) → j ≢ k → (h : Stays k set place log new v w) → known_at j w ≡ known_at j v
  known_else j ne h = ap (known_at j) h.left.1 ∙ get_or-set_other v.known k j (left_known h.left.0) nothing ne

  pub seen_here : k < length v.known → (h : Stays k set place log new v w) → seen_log k w ≡ joined log ++ new
  seen_here near h =
      ap (λ (x : Known Entry). joined x.seen) (known_here near h)
      ∙ joined_append log _
      ∙ ap (λ (xs : List Entry). joined log ++ xs) (append-nil _ ∙ drop_own (joined log) new)
    where
      drop_own : (xs ys : List Entry) → drop (length xs) (xs ++ ys) ≡ ys
      drop_own [] ys = refl
      drop_own (x ∷ xs) ys = drop_own xs ys

  -- what it had seen is a beginning of what it has seen
  pub seen_more : k < length v.known → (h : Stays k set place log new v w) → (j : ℕ) → Begins (seen_log j w) (seen_log j v)
  seen_more near h j = by_test (j == k) refl
    where
      here : Begins (seen_log k w) (seen_log k v)
      here = (
        joined h.begins.0 ++ new,
        seen_here near h ∙ ap (λ (ts : List (Tenure Entry)). joined ts ++ new) h.begins.1
            ∙ ap (λ (xs : List Entry). xs ++ new) (joined_append (known_at k v).seen h.begins.0)
            ∙ append_assoc (joined (known_at k v).seen) (joined h.begins.0) new,
      )

      by_test : (b : Bool) → (j == k) ≡ b → Begins (seen_log j w) (seen_log j v)
      by_test true is = subst (λ (i : ℕ). Begins (seen_log i w) (seen_log i v)) (sym (eqb-true j k is)) here
      by_test false is = (
        [],
        ap (λ (x : Known Entry). joined x.seen) (known_else j (λ e. absurd (let t : (j == k) ≡ true = eq-eqb j k e in cc)) h)
            ∙ sym (append-nil (seen_log j v)),
      )

  pub knows_after : (ids : Ids) (made : List Entry) → KnowsNode ids made v → AreOf set.id new → Stays k set place log new v w → KnowsNode ids (made ++ new) w
  knows_after ids made knows of h = stays_keep ids made new k set place log v w knows (only_of set.id new of) h
