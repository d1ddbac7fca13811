-- What the tests of the tables tell: there are 16 indexes, and the shares are few.
use Rattle.std.proofs.Common.{◌≡◌, ℕ, ◌≤◌, true, length, Option, arith, eqb-true}
use Rattle.std.specs.Prelude.{◌==◌}
use Rattle.std.specs.List.{list_all}
use Rattle.std.proofs.lemmas.Bool.{and_parts}
use Rattle.am_model.specs.Calls.{shares}
use Rattle.am_model.specs.Endpoint.{Body}
use Rattle.am_model.specs.Valid.{is_mapping_in_range}
use Rattle.am_model.proofs.Shares.{shares_le}
use Rattle.am_swap_codec.specs.Tests.{tables_pass}

pub sixteen : (pool : Option ℕ) (b : Body) → tables_pass pool b ≡ true → length b.mapped ≡ 16
sixteen pool b h = eqb-true (length b.mapped) 16 (and_parts (length b.mapped == 16) _ h).0

pub few_shares : (pool : Option ℕ) (b : Body) → tables_pass pool b ≡ true → shares b ≤ 128
few_shares pool b h =
    let rest = (and_parts (length b.mapped == 16) _ h).1 in
    omega (arith, shares_le pool b.mapped (and_parts (list_all (is_mapping_in_range pool) b.mapped) _ rest).0, sixteen pool b h)
