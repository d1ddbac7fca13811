-- The records of an endpoint that has a pool of credits.
use Rattle.std.specs.Prelude.{◌≡◌, ℕ, ◌+◌, ◌≤◌, None}
use Rattle.am_model.specs.Endpoint.{Body, entry_at}
use Rattle.am_model.specs.Calls.{records_at, excess, shares}

-- the records above the shares are within the pool, the shares with the pool are within the table, and an index that is
-- not mapped has no records
pub record IsWithinPool (pool : ℕ) (b : Body) : Type 0 where
  pub over : excess b ≤ pool
  pub sum : shares b + pool ≤ 32
  pub unmapped : (index : ℕ) → entry_at b.mapped index ≡ None → records_at b index ≡ 0
