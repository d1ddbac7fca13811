-- A driver's move on its parts: the endpoint that it moves, and the disk of the node.
use Rattle.std.specs.Prelude.{◌≡◌, ℕ, true, false, Result, Ok, Err, [], ◌∷◌, ◌++◌, length, if◌then◌else◌}
use Rattle.am_names.specs.declared.EndpointId.{EndpointId}
use Rattle.am_names.specs.declared.NodeId.{NodeId}
use Rattle.am_names.specs.declared.NoMemory.{NoMemory}
use Rattle.am_office_entries.specs.declared.Event.{Event}
use Rattle.am_office_entries.specs.declared.Event.TheVariants as Events
use Rattle.am_office_entries.specs.declared.Outcome.{Outcome}
use Rattle.am_office_entries.specs.declared.Outcome.TheVariants as Out
use Rattle.am_office_entries.specs.declared.Entry.{Entry}
use Rattle.am_model.specs.Endpoint.{is_in_a_frame, is_on_host}
use Rattle.am_swap_device.specs.Causes.{Holding}
use Rattle.am_swap_device.specs.Memory.{Store, held_for}
use Rattle.am_driver_moves.specs.Logs.{EndLog, state_in}
use Rattle.am_driver_moves.specs.Pages.{CanPageIn, CanPageOut, IsBodyValid, after_page, is_page, page_outcome}

-- the endpoint of the node lies in a frame and isn't draining
pub record CanDrain (node : NodeId) (end : EndpointId) (e : EndLog) : Type 0 where
  pub is_node : node ≡ e.settings.node
  pub is_end : end ≡ e.settings.id
  pub framed : is_in_a_frame (state_in e).head.place ≡ true
  pub undrained : (state_in e).head.draining ≡ false

-- it lies in a frame and is draining, with nothing in flight
pub record CanUnload (node : NodeId) (end : EndpointId) (e : EndLog) : Type 0 where
  pub is_node : node ≡ e.settings.node
  pub is_end : end ≡ e.settings.id
  pub framed : is_in_a_frame (state_in e).head.place ≡ true
  pub draining : (state_in e).head.draining ≡ true
  pub none_in_flight : length (state_in e).body.in_flight ≡ 0

-- it lies on the host and is open
pub record CanLoad (node : NodeId) (end : EndpointId) (e : EndLog) : Type 0 where
  pub is_node : node ≡ e.settings.node
  pub is_end : end ≡ e.settings.id
  pub on_host : is_on_host (state_in e).head.place ≡ true
  pub opened : (state_in e).head.closed ≡ false

-- the endpoint may be moved so, where this is held
abbrev pub CanMoveBy : Holding → EndLog → Event → Type 0
CanMoveBy held e (Events.Drain node end) = CanDrain node end e
CanMoveBy held e (Events.Unload node end) = CanUnload node end e
CanMoveBy held e (Events.Load node end frame) = CanLoad node end e
CanMoveBy held e (Events.PageOut node end) = CanPageOut node end e
CanMoveBy held e (Events.PageIn node end) = CanPageIn held node end e
CanMoveBy held e event = ⊥

-- and so with a swap in memory
abbrev pub CanMove : Store → EndLog → Event → Type 0
CanMove s e event = CanMoveBy (held_for s.held) e event

-- what comes of a move, and the disk after it: a page-out and a page-in are one call of the disk each
abbrev pub outcome_with : Store → Event → Outcome
outcome_with s event = if is_page event then page_outcome s else Out.Silent

abbrev pub swap_with : Store → EndLog → Event → Store
swap_with s e event = if is_page event then after_page s e event else s

-- the move was made, and its entry tells what the disk answered
pub record IsMovedBy (s t : Store) (e f : EndLog) (event : Event) (stamp : ℕ) (x : Entry) : Type 0 where
  pub entry : x ≡ record { stamp = stamp; event = event; outcome = outcome_with s event }
  pub swap : t ≡ swap_with s e event
  pub valid : IsBodyValid e event
  pub settings : f.settings ≡ e.settings
  pub log : f.log ≡ e.log ++ x ∷ []

-- want of memory leaves both as they were
abbrev pub Moves : Store → Store → EndLog → EndLog → Event → ℕ → Result Entry NoMemory → Type 0
Moves s t e f event stamp (Ok x) = IsMovedBy s t e f event stamp x
Moves s t e f event stamp (Err fault) = (t ≡ s) × (f ≡ e)
