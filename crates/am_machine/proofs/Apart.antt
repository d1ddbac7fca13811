-- Endpoints that have numbers of their own: one stands at the place where it is found.
use Rattle.std.specs.Prelude.{slice_get, not, option_map}
use Rattle.std.specs.List.{position, position_or_len}
use Rattle.std.proofs.Common.{◌≡◌, ℕ, zero, suc, ◌+◌, ◌<◌, Bool, true, false, cond, List, [], ◌∷◌, map, length, Option, Some, None, refl, sym, ap, ◌∙◌, subst}
use Rattle.std.proofs.Common.{arith, ltb, lt-ltb, ltb-false}
use Rattle.std.proofs.lemmas.List.Folds.{find_at}
use Rattle.std.proofs.lemmas.Option.{slice_get_past, slice_get_within}
use Rattle.am_lemmas.proofs.Lists.{slice_get-map_Some}
use Rattle.am_names.specs.declared.EndpointId.{EndpointId}
use Rattle.am_office_entries.specs.declared.Entry.{Entry}
use Rattle.am_model.proofs.Names.{same_end-is}
use Rattle.am_model.specs.Layout.{Layout}
use Rattle.am_endpoint.specs.View.{EndpointView}
use Rattle.am_driver_moves.specs.Logs.{kept}
use Rattle.am_machine.specs.Apart.{AreApart, is_at}
use Rattle.am_machine.specs.Ends.{is_of}
use Rattle.am_machine.specs.Kept.{IsTied}
use Rattle.am_machine.specs.Ways.{node_of}

-- those of a cluster have, as lent to a look
pub apart_in : (layout : Layout) (vs us : List EndpointView) (journal : List Entry) → IsTied layout (map kept vs) journal → us ≡ vs → AreApart (map kept us)
apart_in layout vs us journal tied same = subst (λ (ws : List EndpointView). AreApart (map kept ws)) (sym same) tied.apart

-- the only one that passes is the first
position_of_only : {X : Type 0} (p : X → Bool) (xs : List X) (k : ℕ) (x : X) → slice_get xs k ≡ Some x → p x ≡ true →
    ((j : ℕ) (y : X) → slice_get xs j ≡ Some y → p y ≡ true → j ≡ k) → position_or_len p xs ≡ k
position_of_only p [] k x at passes only = absurd (cc)
position_of_only p (y ∷ ys) zero x at passes only =
    let same : y ≡ x = cc in
    let is : p y ≡ true = ap p same ∙ passes in
    ap (λ (b : Bool). cond (not b) (1 + position_or_len p ys) 0) is
position_of_only p (y ∷ ys) (suc k) x at passes only =
    by_test (p y) refl (position_of_only p ys k x at passes (λ j z there too. let e : suc j ≡ suc k = only (suc j) z there too in omega (arith, e)))
  where
    by_test : (b : Bool) → p y ≡ b → position_or_len p ys ≡ k → cond (not b) (1 + position_or_len p ys) 0 ≡ suc k
    by_test true is more = let far : zero ≡ suc k = only zero y refl is in absurd (omega (arith, far))
    by_test false is more = omega (arith, more)

position_only : {X : Type 0} (p : X → Bool) (xs : List X) (k : ℕ) (x : X) → slice_get xs k ≡ Some x → p x ≡ true →
    ((j : ℕ) (y : X) → slice_get xs j ≡ Some y → p y ≡ true → j ≡ k) → Some k ≡ position p xs
position_only p xs k x at passes only =
    let is = position_of_only p xs k x at passes only in
    let within = slice_get_within xs k x at in
    let less : position_or_len p xs < length xs = omega (arith, is, within) in
    sym (ap (λ (b : Bool). cond b (Some (position_or_len p xs)) None) (lt-ltb (position_or_len p xs) (length xs) less) ∙ ap Some is)

-- it is found at the place where it stands
pub placed_at : (vs : List EndpointView) (e : EndpointId) (k : ℕ) → AreApart (map kept vs) → is_at (slice_get vs k) e ≡ true → Some k ≡ position (is_of e) vs
placed_at vs e k apart at = by_place (slice_get vs k) refl at
  where
    by_place : (o : Option EndpointView) → slice_get vs k ≡ o → is_at o e ≡ true → Some k ≡ position (is_of e) vs
    by_place None there is = absurd (cc)
    by_place (Some v) there is =
        position_only (is_of e) vs k v there is
        (λ j w at_j passes. apart j k (kept w) (kept v) (slice_get-map_Some kept vs j w at_j) (slice_get-map_Some kept vs k v there)
        (sym (same_end-is e w.settings.id passes) ∙ same_end-is e v.settings.id is))

-- the node of the endpoint that was found
pub node_found : (vs : List EndpointView) (e : EndpointId) (k : ℕ) (v : EndpointView) → position (is_of e) vs ≡ Some k → slice_get vs k ≡ Some v →
    Some v.settings.node ≡ node_of e vs
node_found vs e k v h at = by_test (ltb (position_or_len (is_of e) vs) (length vs)) h
  where
    by_test : (b : Bool) → cond b (Some (position_or_len (is_of e) vs)) None ≡ Some k → Some v.settings.node ≡ node_of e vs
    by_test true is =
        let same : position_or_len (is_of e) vs ≡ k = cc in
        sym (ap (option_map (λ (w : EndpointView). w.settings.node)) (find_at (is_of e) vs ∙ ap (slice_get vs) same ∙ at))
    by_test false is = absurd (cc)

pub node_missing : (vs : List EndpointView) (e : EndpointId) → position (is_of e) vs ≡ None → None ≡ node_of e vs
node_missing vs e h = by_test (ltb (position_or_len (is_of e) vs) (length vs)) refl h
  where
    by_test : (b : Bool) → ltb (position_or_len (is_of e) vs) (length vs) ≡ b → cond b (Some (position_or_len (is_of e) vs)) None ≡ None → None ≡ node_of e vs
    by_test true is none = absurd (cc)
    by_test false is none =
        sym (ap (option_map (λ (w : EndpointView). w.settings.node)) (find_at (is_of e) vs
        ∙ slice_get_past vs (position_or_len (is_of e) vs) (ltb-false (position_or_len (is_of e) vs) (length vs) is)))
