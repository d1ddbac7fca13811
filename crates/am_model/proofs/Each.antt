-- Inductions over what may follow what, and one entry more.
use Rattle.std.proofs.Common.{◌≡◌, Bool, true, false, cond, List, [], ◌∷◌, ◌++◌, refl, sym, ap, subst, append_assoc, if◌then◌else◌}
use Rattle.std.proofs.lemmas.List.{append-nil}
use Rattle.std.specs.List.{filter}
use Rattle.std.proofs.lemmas.List.Elements.{filter-append}
use Rattle.am_names.specs.declared.EndpointId.{EndpointId}
use Rattle.am_office_entries.specs.declared.Entry.{Entry}
use Rattle.am_model.specs.Endpoint.{State}
use Rattle.am_model.specs.Changes.{after, replay}
use Rattle.am_office_entries.specs.Entries.{touches}
use Rattle.am_model.specs.Layout.{Layout, opening}
use Rattle.am_model.specs.History.{state_of, EachAfter}

-- what holds at the start and is kept by each entry that may follow holds at the end
pub over_each : (May : List Entry → Entry → Type 0) (P : List Entry → Type 0) → ((past : List Entry) (x : Entry) → P past → May past x → P (past ++ x ∷ [])) →
    (past xs : List Entry) → P past → EachAfter May past xs → P (past ++ xs)
over_each May P step past [] p h = subst P (sym (append-nil past)) p
over_each May P step past (x ∷ xs) p h =
    subst P (append_assoc past (x ∷ []) xs) (over_each May P step (past ++ x ∷ []) xs (step past x p h.0) h.1)

-- a law that holds of each entry, where an invariant gives it
pub each_has : (May Law : List Entry → Entry → Type 0) (P : List Entry → Type 0) → ((past : List Entry) (x : Entry) → P past → May past x →
    P (past ++ x ∷ [])) → ((past : List Entry) (x : Entry) → P past → May past x → Law past x) → (past xs : List Entry) → P past → EachAfter May past xs →
    EachAfter Law past xs
each_has May Law P step law past [] p h = tt
each_has May Law P step law past (x ∷ xs) p h =
    (law past x p h.0, each_has May Law P step law (past ++ x ∷ []) xs (step past x p h.0) h.1)

pub replay_push : (e : EndpointId) (s : State) (xs : List Entry) (x : Entry) → replay e s (xs ++ x ∷ []) ≡ after e (replay e s xs) x
replay_push e s [] x = refl
replay_push e s (y ∷ xs) x = replay_push e (after e s y) xs x

-- one entry more: an endpoint that it touches changes, and the others do not
pub state_of_push : (layout : Layout) (past : List Entry) (x : Entry) (e : EndpointId) (t : Bool) → touches e x ≡ t →
    state_of layout (past ++ x ∷ []) e ≡ (if t then after e (state_of layout past e) x else state_of layout past e)
state_of_push layout past x e t is = rw (filter-append (touches e) past (x ∷ [])) (rw is (by_test t))
  where
    by_test : (b : Bool) → replay e (opening layout e) (filter (touches e) past ++ cond b (x ∷ []) []) ≡
        (if b then after e (state_of layout past e) x else state_of layout past e)
    by_test true = replay_push e (opening layout e) (filter (touches e) past) x
    by_test false = ap (replay e (opening layout e)) (append-nil (filter (touches e) past))

-- one entry more
pub each_push : (May : List Entry → Entry → Type 0) (past xs : List Entry) (x : Entry) → EachAfter May past xs → May (past ++ xs) x →
    EachAfter May past (xs ++ x ∷ [])
each_push May past [] x h more = (subst (λ (ys : List Entry). May ys x) (append-nil past) more, tt)
each_push May past (y ∷ xs) x h more =
    (h.0, each_push May (past ++ y ∷ []) xs x h.1 (subst (λ (ys : List Entry). May ys x) (sym (append_assoc past (y ∷ []) xs)) more))

-- at each place
pub each_at : (May : List Entry → Entry → Type 0) (past xs : List Entry) (x : Entry) (ys : List Entry) → EachAfter May past (xs ++ x ∷ ys) → May (past ++ xs) x
each_at May past [] x ys h = subst (λ (zs : List Entry). May zs x) (sym (append-nil past)) h.0
each_at May past (z ∷ xs) x ys h = subst (λ (zs : List Entry). May zs x) (append_assoc past (z ∷ []) xs) (each_at May (past ++ z ∷ []) xs x ys h.1)

-- a beginning of a history
pub each_front : (May : List Entry → Entry → Type 0) (past xs ys : List Entry) → EachAfter May past (xs ++ ys) → EachAfter May past xs
each_front May past [] ys h = tt
each_front May past (x ∷ xs) ys h = (h.0, each_front May (past ++ x ∷ []) xs ys h.1)

pub each_append : (May : List Entry → Entry → Type 0) (past xs ys : List Entry) → EachAfter May past xs → EachAfter May (past ++ xs) ys →
    EachAfter May past (xs ++ ys)
each_append May past [] ys h k = subst (λ (zs : List Entry). EachAfter May zs ys) (append-nil past) k
each_append May past (x ∷ xs) ys h k =
    (h.0, each_append May (past ++ x ∷ []) xs ys h.1 (subst (λ (zs : List Entry). EachAfter May zs ys) (sym (append_assoc past (x ∷ []) xs)) k))

-- what holds of each entry by what is before it follows from what does
pub each_imply : (P Q : List Entry → Entry → Type 0) → ((past : List Entry) (x : Entry) → P past x → Q past x) → (past xs : List Entry) → EachAfter P past xs →
    EachAfter Q past xs
each_imply P Q imply past [] h = tt
each_imply P Q imply past (x ∷ xs) h = (imply past x h.0, each_imply P Q imply (past ++ x ∷ []) xs h.1)
