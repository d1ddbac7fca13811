-- Where an endpoint stands among others.
use Rattle.std.proofs.Common.{◌≡◌, ℕ, ◌≤◌, List, length, get_or, sym, refl, ap, ◌∙◌, arith, true, false, true≢false, eqb-true, eq-eqb}
use Rattle.std.specs.Prelude.{Some, None, Contains, position, slice_get}
use Rattle.std.specs.List.{position_or_len}
use Rattle.std.proofs.lemmas.Grind.{common_steps}
use Rattle.std.proofs.lemmas.List.Quantifiers.{position-Some}
use Rattle.std.proofs.lemmas.List.Sums.{fails_before_first}
use Rattle.std.proofs.lemmas.Option.{slice_get-get_or}
use Rattle.am_names.specs.declared.EndpointId.{EndpointId}
use Rattle.am_names.specs.Names.{same_end}

same : (e x : EndpointId) → same_end e x ≡ true → x ≡ e
same e x h = let n : e.0 ≡ x.0 = eqb-true e.0 x.0 h in λ i. record { 0 = sym n i }

pub stands_there : (e : EndpointId) (ids : List EndpointId) (k : ℕ) → position (same_end e) ids ≡ Some k → slice_get ids k ≡ Some e
stands_there e ids k is = let t = position-Some (same_end e) ids k e is in slice_get-get_or ids k e t.0
    ∙ ap (λ (z : EndpointId). Some z) (same e (get_or ids k e) t.1)

past_all : (e : EndpointId) (ids : List EndpointId) → position (same_end e) ids ≡ None → length ids ≤ position_or_len (same_end e) ids
past_all e ids none_is = grind (arith, common_steps)

pub is_somewhere : (e : EndpointId) (ids : List EndpointId) → Contains ids e → position (same_end e) ids ≡ None → ⊥
is_somewhere e ids c none_is = let past = past_all e ids none_is in
    let fails : same_end e (get_or ids c.0 e) ≡ false = fails_before_first (same_end e) ids c.0 e (let near = c.1 in omega arith) in
    true≢false (sym (ap (same_end e) c.2 ∙ eq-eqb e.0 e.0 refl) ∙ fails)
