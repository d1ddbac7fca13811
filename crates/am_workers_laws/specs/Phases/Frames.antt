-- Which frame an endpoint lies in, as its node's driver knows it by its own moves alone.
use Rattle.std.specs.Prelude.{◌≡◌, ℕ, false, Some, None, List, [], ◌∷◌, ◌++◌}
use Rattle.am_names.specs.declared.EndpointId.{EndpointId}
use Rattle.am_office_entries.specs.declared.Entry.{Entry}
use Rattle.am_model.specs.Changes.{after, replay}
use Rattle.am_model.specs.Endpoint.{State}
use Rattle.am_model.specs.History.{is_in_frame}
use Rattle.am_model.specs.Layout.{AllAre}
use Rattle.am_model_parts.specs.Driver.{DriverLog, changes_frame, end_moved, failing_move, lies_in}
use Rattle.am_workers_laws.specs.Phases.Lying.{moves_by}

-- an endpoint in this state lies in a frame where the driver loaded it there last
abbrev pub LiesAsMoved : List Entry → EndpointId → State → Type 0
LiesAsMoved made e s = (frame : ℕ) → is_in_frame frame s.head.place ≡ lies_in made frame e

-- it stays so where others add entries that don't move it, where the driver makes a move of it, and where it moves another
pub record FramesAreKnown : Type 0 where
  pub others : (made : List Entry) (e : EndpointId) (s : State) (xs : List Entry) → LiesAsMoved made e s → AllAre (λ (x : Entry). moves_by x.event ≡ false) xs → LiesAsMoved made e (replay e s xs)
  pub own : (d : DriverLog) (e : EndpointId) (s : State) (x : Entry) → LiesAsMoved d.log e s → end_moved x.event ≡ Some e → failing_move d s x.event ≡ None → LiesAsMoved (d.log ++ x ∷ []) e (after e s x)
  pub elsewhere : (made : List Entry) (e : EndpointId) (s : State) (x : Entry) → LiesAsMoved made e s → changes_frame e x.event ≡ false → LiesAsMoved (made ++ x ∷ []) e s
