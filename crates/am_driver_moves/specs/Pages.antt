-- A page call on its parts: the disk of the node, and the endpoint.
use Rattle.std.specs.Prelude.{◌≡◌, ℕ, Bool, true, false, Option, Some, [], ◌∷◌, ◌++◌, if◌then◌else◌}
use Rattle.am_names.specs.declared.EndpointId.{EndpointId}
use Rattle.am_names.specs.declared.NodeId.{NodeId}
use Rattle.am_office_entries.specs.declared.Event.{Event}
use Rattle.am_office_entries.specs.declared.Event.TheVariants as Events
use Rattle.am_office_entries.specs.declared.Outcome.{Outcome}
use Rattle.am_office_entries.specs.declared.Entry.{Entry}
use Rattle.am_model.specs.Tables.{page_ended}
use Rattle.am_model.specs.Endpoint.{Body, is_on_disk, is_on_host}
use Rattle.am_swap_device.specs.Causes.{Holding, fails_after}
use Rattle.am_swap_device.specs.Memory.{Store, counted, faulted, held_for, with_held}
use Rattle.am_swap_image.specs.Image.{image}
use Rattle.am_swap_image.specs.Valid.{IsValid}
use Rattle.am_driver_moves.specs.Logs.{EndLog, state_in}

-- for the endpoint e the image of this body is held, which e may have on disk
pub record HoldsImage (held_of : Holding) (pool : Option ℕ) (e : EndpointId) (b : Body) : Type 0 where
  pub held : held_of e ≡ Some (image b)
  pub valid : IsValid e pool b

-- and so a swap in memory holds it
abbrev pub HoldsBody : Store → Option ℕ → EndpointId → Body → Type 0
HoldsBody s = HoldsImage (held_for s.held)

-- whether the event is a page call
abbrev pub is_page : Event → Bool
is_page (Events.PageOut node end) = true
is_page (Events.PageIn node end) = true
is_page event = false

-- what comes of the next call of a swap that has memory for it
abbrev pub page_outcome : Store → Outcome
page_outcome s = page_ended (fails_after s.fails s.calls)

-- a swap after a call, which leaves it so where it doesn't fail
abbrev pub after_call : Store → Store → Store
after_call s done = if fails_after s.fails s.calls then faulted s else counted done

-- an endpoint of the node that may be paged out, or paged in from what is held
pub record CanPageOut (node : NodeId) (end : EndpointId) (e : EndLog) : Type 0 where
  pub is_node : node ≡ e.settings.node
  pub is_end : end ≡ e.settings.id
  pub on_host : is_on_host (state_in e).head.place ≡ true
  pub opened : (state_in e).head.closed ≡ false

pub record CanPageIn (held_of : Holding) (node : NodeId) (end : EndpointId) (e : EndLog) : Type 0 where
  pub is_node : node ≡ e.settings.node
  pub is_end : end ≡ e.settings.id
  pub on_disk : is_on_disk (state_in e).head.place ≡ true
  pub holds : HoldsImage held_of e.settings.pool e.settings.id (state_in e).body

abbrev pub CanPage : Store → EndLog → Event → Type 0
CanPage s e (Events.PageOut node end) = CanPageOut node end e
CanPage s e (Events.PageIn node end) = CanPageIn (held_for s.held) node end e
CanPage s e event = ⊥

-- a swap after the page call: a page-out that doesn't fail leaves the image of the endpoint's body there
abbrev pub after_page : Store → EndLog → Event → Store
after_page s e (Events.PageOut node end) = after_call s (with_held s e.settings.id (image (state_in e).body))
after_page s e event = after_call s s

-- what is paged out is a body that the endpoint may have on disk
abbrev pub IsBodyValid : EndLog → Event → Type 0
IsBodyValid e (Events.PageOut node end) = IsValid e.settings.id e.settings.pool (state_in e).body
IsBodyValid e event = Unit {0}

-- the page call was made, and its entry tells what the swap answered
pub record IsPagedBy (s t : Store) (e f : EndLog) (event : Event) (stamp : ℕ) (x : Entry) : Type 0 where
  pub entry : x ≡ record { stamp = stamp; event = event; outcome = page_outcome s }
  pub swap : t ≡ after_page s e event
  pub valid : IsBodyValid e event
  pub settings : f.settings ≡ e.settings
  pub log : f.log ≡ e.log ++ x ∷ []
