-- What a view shows of the endpoint for which the rules choose a move.
use Rattle.std.specs.Prelude.{◌≡◌, ◌⊎◌, ℕ, ◌<◌, true, false, Some, slice_get}
use Rattle.am_driver_moves.specs.declared.choice.EndView.{EndView}
use Rattle.am_driver_moves.specs.declared.choice.Move.{Move}
use Rattle.am_driver_moves.specs.declared.choice.Move.TheVariants as Moves
use Rattle.am_driver_moves.specs.Choice.Lists.{ViewLists}
use Rattle.am_driver_moves.specs.Choice.Moves.{has_frame, is_free, may_page_out, may_unload, next_move, wants_frame, wants_memory}

-- the line is of the endpoint that the move is of, and it may be moved so
abbrev pub Suits : ViewLists → Move → EndView → Type 0
Suits view (Moves.Unload e) line = (line.id ≡ e) × (may_unload line ≡ true)
Suits view (Moves.PageIn e) line = (line.id ≡ e) × (wants_memory line ≡ true)
Suits view (Moves.Load e frame) line = (line.id ≡ e) × (wants_frame line ≡ true) × (is_free view.ends frame ≡ true) × (frame < view.frames)
Suits view (Moves.Drain e) line = (line.id ≡ e) × (has_frame line ≡ true) × (line.draining ≡ false)
Suits view (Moves.PageOut e) line = (line.id ≡ e) × (may_page_out line ≡ true)
Suits view Moves.Nothing line = ⊥

-- one of the view's lines suits the move
pub record IsOfLine (view : ViewLists) (move : Move) : Type 0 where
  pub place : ℕ
  pub line : EndView
  pub at : slice_get view.ends place ≡ Some line
  pub suits : Suits view move line

-- what the rules choose is a move of an endpoint that the view shows, or nothing
abbrev pub MovesOfLines : Type 0
MovesOfLines = (view : ViewLists) → (next_move view ≡ Moves.Nothing) ⊎ IsOfLine view (next_move view)
