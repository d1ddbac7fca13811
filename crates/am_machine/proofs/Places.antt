-- Reads and writes of endpoints by their places.
use Rattle.std.specs.Prelude.{slice_get, slice_set, slice_index_or, not, OnOk, Result, Ok, Err}
use Rattle.std.specs.List.{list_any, position, position_or_len}
use Rattle.std.proofs.lemmas.List.{take_at}
use Rattle.std.proofs.Common.{take, drop, ◌≡◌, ℕ, zero, suc, ◌+◌, ◌<◌, Bool, true, false, cond, ◌||◌, List, [], ◌∷◌, ◌++◌, map, length, Some, None, refl, sym}
use Rattle.std.proofs.Common.{ap, ◌∙◌, subst, arith, eqb-true, ltb-true, ltb, lt-ltb, if◌then◌else◌}
use Rattle.std.proofs.lemmas.Option.{slice_get_within, slice_get-get_or}
use Rattle.am_lemmas.proofs.Lists.{slice_get-set_here}
use Rattle.am_names.specs.declared.EndpointId.{EndpointId}
use Rattle.am_office_entries.specs.declared.Entry.{Entry}
use Rattle.am_model.specs.Layout.{has_id}
use Rattle.am_endpoint.specs.View.{EndpointView}
use Rattle.am_driver_moves.specs.Logs.{kept}
use Rattle.am_machine.specs.Ends.{setting_in, is_of, logged_at}
use Rattle.am_machine.specs.Carries.{At, is_place, carried_at}
use Rattle.am_machine.proofs.Tied.{kept_set}

pub at_read : (vs : List EndpointView) (k : ℕ) (P : EndpointView → Type 0) (one : EndpointView) → k < length vs → At vs k P → P (slice_index_or vs k one)
at_read vs k P one h at = at (slice_index_or vs k one) (slice_get-get_or vs k one h)

pub set_other : {X : Type 0} (xs : List X) (k j : ℕ) (w : X) → is_place k j ≡ false → slice_get (slice_set xs k w) j ≡ slice_get xs j
set_other [] k j w h = refl
set_other (x ∷ xs) zero zero w h = absurd (cc)
set_other (x ∷ xs) zero (suc j) w h = refl
set_other (x ∷ xs) (suc k) zero w h = refl
set_other (x ∷ xs) (suc k) (suc j) w h = set_other xs k j w h

pub place_apart : (k j : ℕ) → (k ≡ j → ⊥) → is_place k j ≡ false
place_apart zero zero h = absurd (h refl)
place_apart zero (suc j) h = refl
place_apart (suc k) zero h = refl
place_apart (suc k) (suc j) h = place_apart k j (λ e. h (ap suc e))

pub place_same : (k : ℕ) → is_place k k ≡ true
place_same zero = refl
place_same (suc k) = place_same k

pub place_is : (k j : ℕ) → is_place k j ≡ true → k ≡ j
place_is zero zero h = refl
place_is zero (suc j) h = absurd (cc)
place_is (suc k) zero h = absurd (cc)
place_is (suc k) (suc j) h = ap suc (place_is k j h)

-- ---- a carry's two writes

pub carried_one : (vs : List EndpointView) (source dest : ℕ) (v w : EndpointView) (x : Entry) → source ≡ dest → slice_get vs source ≡ Some v →
    w.settings ≡ v.settings → w.log ≡ v.log ++ x ∷ [] → map kept (slice_set vs source w) ≡ carried_at source dest x (map kept vs)
carried_one vs source dest v w x same at settings log =
    kept_set vs source v w x at settings log
    ∙ ap (λ (b : Bool). if b then logged_at source x (map kept vs) else logged_at dest x (logged_at source x (map kept vs)))
    (sym (subst (λ (j : ℕ). is_place source j ≡ true) same (place_same source)))

pub carried_two : (vs : List EndpointView) (source dest : ℕ) (v w d e : EndpointView) (x : Entry) → is_place source dest ≡ false →
    slice_get vs source ≡ Some v → w.settings ≡ v.settings → w.log ≡ v.log ++ x ∷ [] → slice_get (slice_set vs source w) dest ≡ Some d →
    e.settings ≡ d.settings → e.log ≡ d.log ++ x ∷ [] → map kept (slice_set (slice_set vs source w) dest e) ≡ carried_at source dest x (map kept vs)
carried_two vs source dest v w d e x apart at settings log at2 settings2 log2 =
    kept_set (slice_set vs source w) dest d e x at2 settings2 log2
    ∙ ap (logged_at dest x) (kept_set vs source v w x at settings log)
    ∙ ap (λ (b : Bool). if b then logged_at source x (map kept vs) else logged_at dest x (logged_at source x (map kept vs))) (sym apart)

-- ---- finding an endpoint

at_place : (vs : List EndpointView) (e : EndpointId) → position_or_len (is_of e) vs < length vs →
    (v : EndpointView) × ((slice_get vs (position_or_len (is_of e) vs) ≡ Some v) × (v.settings.id ≡ e))
at_place [] e h = absurd (omega (arith, h))
at_place (x ∷ vs) e h = by_test (is_of e x) refl h (at_place vs e)
  where
    by_test : (b : Bool) → is_of e x ≡ b → cond (not b) (1 + position_or_len (is_of e) vs) 0 < suc (length vs) →
        (position_or_len (is_of e) vs < length vs → (v : EndpointView) × ((slice_get vs (position_or_len (is_of e) vs) ≡ Some v) × (v.settings.id ≡ e))) →
        (v : EndpointView) × ((slice_get (x ∷ vs) (cond (not b) (1 + position_or_len (is_of e) vs) 0) ≡ Some v) × (v.settings.id ≡ e))
    by_test true is l more = let same : e.0 ≡ x.settings.id.0 = eqb-true e.0 x.settings.id.0 is in (x, (refl, λ i. record { 0 = sym same i }))
    by_test false is l more =
        let r = more (omega (arith, l)) in
        let next : 1 + position_or_len (is_of e) vs ≡ suc (position_or_len (is_of e) vs) = omega arith in
        (r.0, (ap (slice_get (x ∷ vs)) next ∙ r.1.0, r.1.1))

position_is : (b : Bool) (n k : ℕ) → cond b (Some n) None ≡ Some k → (b ≡ true) × (n ≡ k)
position_is true n k h = (refl, cc)
position_is false n k h = absurd (cc)

pub position_at : (vs : List EndpointView) (e : EndpointId) (k : ℕ) → position (is_of e) vs ≡ Some k → position_or_len (is_of e) vs ≡ k
position_at vs e k h = (position_is (ltb (position_or_len (is_of e) vs) (length vs)) (position_or_len (is_of e) vs) k h).1

-- an endpoint that was found: it stands there, and is the one
pub record IsFound (vs : List EndpointView) (e : EndpointId) (k : ℕ) : Type 0 where
  pub view : EndpointView
  pub at : slice_get vs k ≡ Some view
  pub id : view.settings.id ≡ e
  pub within : k < length vs

pub found : (vs : List EndpointView) (e : EndpointId) (k : ℕ) → position (is_of e) vs ≡ Some k → IsFound vs e k
found vs e k h =
    let at = position_is (ltb (position_or_len (is_of e) vs) (length vs)) (position_or_len (is_of e) vs) k h in
    let r = at_place vs e (ltb-true (position_or_len (is_of e) vs) (length vs) at.0) in
    let got : slice_get vs k ≡ Some r.0 = ap (slice_get vs) (sym at.1) ∙ r.1.0 in
    record { view = r.0; at = got; id = r.1.1; within = slice_get_within vs k r.0 got }

below_of_any : (vs : List EndpointView) (e : EndpointId) → list_any (has_id e) (map setting_in (map kept vs)) ≡ true → position_or_len (is_of e) vs < length vs
below_of_any [] e h = absurd (cc)
below_of_any (x ∷ vs) e h = by_test (is_of e x) h (below_of_any vs e)
  where
    by_test : (b : Bool) → (b || list_any (has_id e) (map setting_in (map kept vs))) ≡ true →
        (list_any (has_id e) (map setting_in (map kept vs)) ≡ true → position_or_len (is_of e) vs < length vs) →
        cond (not b) (1 + position_or_len (is_of e) vs) 0 < suc (length vs)
    by_test true k more = omega arith
    by_test false k more = let r = more k in omega (arith, r)

-- one that isn't found isn't declared
pub not_found : (vs : List EndpointView) (e : EndpointId) → position (is_of e) vs ≡ None → list_any (has_id e) (map setting_in (map kept vs)) ≡ true → ⊥
not_found vs e h declared = by_test (ltb (position_or_len (is_of e) vs) (length vs)) (lt-ltb (position_or_len (is_of e) vs) (length vs)
    (below_of_any vs e declared)) h
  where
    by_test : (b : Bool) → b ≡ true → cond b (Some (position_or_len (is_of e) vs)) None ≡ None → ⊥
    by_test true is k = cc
    by_test false is k = cc

-- ---- room

pub room_here : (vs : List EndpointView) (k : ℕ) (w : EndpointView) (P : EndpointView → Type 0) → k < length vs → P w → At (slice_set vs k w) k P
room_here vs k w P h p v at = let got = slice_get-set_here vs k w h in let same : w ≡ v = cc in subst P same p

pub still_at : (vs us : List EndpointView) (k : ℕ) (P : EndpointView → Type 0) → slice_get us k ≡ slice_get vs k → At vs k P → At us k P
still_at vs us k P same at v is = at v (sym same ∙ is)

pub on_ok_then : {T E : Type 0} (r : Result T E) (P Q : Type 0) → (P → Q) → OnOk r P → OnOk r Q
on_ok_then (Ok x) P Q f h = f h
on_ok_then (Err e) P Q f h = tt

pub on_ok_any : {T E : Type 0} (r : Result T E) (Q : Type 0) → Q → OnOk r Q
on_ok_any (Ok x) Q q = q
on_ok_any (Err e) Q q = tt

-- a slice that was lent from a vector goes back whole
pub lent_back : {X : Type 0} (n : ℕ) (xs ys : List X) → length xs ≡ n → take n (xs ++ drop (length xs) ys) ≡ xs
lent_back n xs ys h = take_at xs (drop (length xs) ys) n h
