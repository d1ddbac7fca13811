-- Shares of the pool: each takes at most 8.
use Rattle.std.proofs.Common.{◌≡◌, ℕ, ◌*◌, ◌≤◌, true, List, [], ◌∷◌, Option, Some, None, length, arith, leb-true}
use Rattle.std.specs.Prelude.{nat_le}
use Rattle.std.specs.List.{list_all, sum_by}
use Rattle.std.proofs.lemmas.Bool.{and_parts}
use Rattle.std.proofs.lemmas.List.Sums.{sum_by-cons}
use Rattle.am_model.specs.declared.Mapping.{Mapping}
use Rattle.am_model.specs.Calls.{share_of}
use Rattle.am_model.specs.Valid.{is_mapping_in_range}

pub share_le : (pool : Option ℕ) (mapping : Option Mapping) → is_mapping_in_range pool mapping ≡ true → share_of mapping ≤ 8
share_le pool None h = omega arith
share_le None (Some mapping) h = leb-true mapping.credits 8 (and_parts (nat_le 1 mapping.credits) (nat_le mapping.credits 8) h).1
share_le (Some pool) (Some mapping) h = leb-true mapping.credits 8 h

pub shares_le : (pool : Option ℕ) (xs : List (Option Mapping)) → list_all (is_mapping_in_range pool) xs ≡ true → sum_by share_of xs ≤ 8 * length xs
shares_le pool [] h = omega arith
shares_le pool (x ∷ xs) h =
    let parts = and_parts (is_mapping_in_range pool x) (list_all (is_mapping_in_range pool) xs) h in
    omega (arith, share_le pool x parts.0, shares_le pool xs parts.1, sum_by-cons share_of x xs)
