-- What contracts see of the stage of a link.
use Rattle.std.specs.Prelude.{ℕ, List}
use Rattle.am_wire_release.specs.declared.stage.LateItem.{LateItem}

pub record Staged (X : Type 0) : Type 0 where
  -- what was released and not taken
  pub released : List X
  -- what later emissions release
  pub held : List (LateItem X)
  -- how many items its store has places for, taken and free
  pub store : ℕ
  -- there is room for one emission more where this is at least 1
  pub spare : ℕ
