-- The rules of the driver's choice, in their order.
use Rattle.std.specs.Prelude.{◌≡◌, ℕ, Bool, true, false, ◌==◌, ◌&&◌, not, nat_lt, Option, Some, None, is_none, is_some, List, [], ◌∷◌, count_by, find}
use Rattle.std.specs.List.{list_any, range_with_len}
use Rattle.std.specs.Option.{option_map, option_or}
use Rattle.am_names.specs.declared.EndpointId.{EndpointId}
use Rattle.am_model.specs.Endpoint.{is_in_a_frame, is_on_disk, is_on_host}
use Rattle.am_model.specs.History.{is_in_frame}
use Rattle.am_driver_moves.specs.declared.choice.EndView.{EndView}
use Rattle.am_driver_moves.specs.declared.choice.Move.{Move}
use Rattle.am_driver_moves.specs.declared.choice.Move.TheVariants as Moves
use Rattle.am_driver_moves.specs.Choice.Lists.{ViewLists}

abbrev pub has_frame : EndView → Bool
has_frame e = is_in_a_frame e.place

-- on its way out of a frame
abbrev pub is_leaving : EndView → Bool
is_leaving e = has_frame e && e.draining

-- ready to be unloaded
abbrev pub may_unload : EndView → Bool
may_unload e = is_leaving e && (e.in_flight == 0)

-- wanted, and on disk
abbrev pub wants_memory : EndView → Bool
wants_memory e = is_on_disk e.place && e.wanted

abbrev pub is_open_on_host : EndView → Bool
is_open_on_host e = is_on_host e.place && not e.closed

-- wanted, open, and on the host
abbrev pub wants_frame : EndView → Bool
wants_frame e = is_open_on_host e && e.wanted

-- open, on the host, and not wanted
abbrev pub may_page_out : EndView → Bool
may_page_out e = is_open_on_host e && not e.wanted

abbrev pub is_held : List EndView → ℕ → Bool
is_held ends frame = list_any (λ (e : EndView). is_in_frame frame e.place) ends

abbrev pub is_free : List EndView → ℕ → Bool
is_free ends frame = not (is_held ends frame)

-- the least free frame of so many
abbrev pub first_free : List EndView → ℕ → Option ℕ
first_free ends frames = find (is_free ends) (range_with_len 0 frames)

abbrev pub free_frame : ViewLists → Option ℕ
free_frame view = first_free view.ends view.frames

-- whether the endpoint comes after the last one that was drained
abbrev pub is_after : Option EndpointId → EndView → Bool
is_after None e = true
is_after (Some last) e = nat_lt last.0 e.id.0

-- whether it is in a frame, and comes after the last one that was drained
abbrev pub is_next : Option EndpointId → EndView → Bool
is_next last e = has_frame e && is_after last e

-- the next endpoint in a frame after the last that was drained, and where there is none the least in a frame
abbrev pub next_framed : ViewLists → Option EndView
next_framed view = option_or (find (is_next view.last) view.ends) (find has_frame view.ends)

-- some endpoint waits for a frame, none is free, and none is about to be
abbrev pub must_drain : ViewLists → Bool
must_drain view = list_any wants_frame view.ends && is_none (free_frame view) && not (list_any is_leaving view.ends)

-- more open endpoints are on the host than are to be kept there
abbrev pub is_crowded : ViewLists → Bool
is_crowded view = nat_lt view.keep (count_by is_open_on_host view.ends)

-- a value under a condition
abbrev pub given : {X : Type 0} → Bool → Option X → Option X
given true x = x
given false x = None

-- an endpoint goes into a frame, where there are both
abbrev pub load_into : Option ℕ → Option EndView → Option Move
load_into None end = None
load_into (Some frame) None = None
load_into (Some frame) (Some e) = Some (Moves.Load e.id frame)

abbrev pub unload : ViewLists → Option Move
unload view = option_map (λ (e : EndView). Moves.Unload e.id) (find may_unload view.ends)

abbrev pub page_in : ViewLists → Option Move
page_in view = option_map (λ (e : EndView). Moves.PageIn e.id) (find wants_memory view.ends)

abbrev pub load : ViewLists → Option Move
load view = load_into (free_frame view) (find wants_frame view.ends)

abbrev pub drain : ViewLists → Option Move
drain view = option_map (λ (e : EndView). Moves.Drain e.id) (given (must_drain view) (next_framed view))

abbrev pub page_out : ViewLists → Option Move
page_out view = option_map (λ (e : EndView). Moves.PageOut e.id) (given (is_crowded view) (find may_page_out view.ends))

abbrev pub first_move : List (Option Move) → Move
first_move [] = Moves.Nothing
first_move (None ∷ moves) = first_move moves
first_move (Some move ∷ moves) = move

-- what the driver does next: the first of its rules that applies
abbrev pub next_move : ViewLists → Move
next_move view = first_move (unload view ∷ page_in view ∷ load view ∷ drain view ∷ page_out view ∷ [])

-- nothing can be unloaded, paged in, loaded, drained or paged out
pub record NoRuleApplies (view : ViewLists) : Type 0 where
  pub unload : list_any may_unload view.ends ≡ false
  pub page_in : list_any wants_memory view.ends ≡ false
  pub load : (list_any wants_frame view.ends && is_some (free_frame view)) ≡ false
  pub drain : (must_drain view && list_any has_frame view.ends) ≡ false
  pub page_out : (is_crowded view && list_any may_page_out view.ends) ≡ false
