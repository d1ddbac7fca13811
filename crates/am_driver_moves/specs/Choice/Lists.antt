-- A view, with its lines as a list.
use Rattle.std.specs.Prelude.{ℕ, Option, List}
use Rattle.am_names.specs.declared.EndpointId.{EndpointId}
use Rattle.am_driver_moves.specs.declared.choice.EndView.{EndView}

pub record ViewLists : Type 0 where
  pub ends : List EndView
  pub frames : ℕ
  pub keep : ℕ
  pub last : Option EndpointId
