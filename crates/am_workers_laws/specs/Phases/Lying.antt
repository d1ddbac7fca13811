-- Where an endpoint lies after some entries of its log, and what becomes of its body while it lies on disk.
use Rattle.std.specs.Prelude.{◌≡◌, ◌||◌, ◌&&◌, not, Bool, true, false, List, [], ◌∷◌}
use Rattle.am_names.specs.declared.EndpointId.{EndpointId}
use Rattle.am_office_entries.specs.declared.Event.{Event}
use Rattle.am_office_entries.specs.declared.Event.TheVariants as Events
use Rattle.am_office_entries.specs.declared.Outcome.{Outcome}
use Rattle.am_office_entries.specs.declared.Outcome.TheVariants as Out
use Rattle.am_office_entries.specs.declared.Received.TheVariants as Got
use Rattle.am_office_entries.specs.declared.Entry.{Entry}
use Rattle.am_model.specs.Changes.{after, replay}
use Rattle.am_model.specs.Endpoint.{State, is_direct, is_on_disk}
use Rattle.am_model.specs.Layout.{AllAre}

-- whether an event moves its endpoint, if it does not fail: a driver's load, unload, page-out or page-in
abbrev pub moves_by : Event → Bool
moves_by (Events.Load node end frame) = true
moves_by (Events.Unload node end) = true
moves_by (Events.PageOut node end) = true
moves_by (Events.PageIn node end) = true
moves_by event = false

-- whether an entry leaves the body of its endpoint what it is: a want, a parcel that is refused, and each move of a driver
abbrev pub keeps_body : Event → Outcome → Bool
keeps_body (Events.Want actor end) outcome = true
keeps_body (Events.Receive node peer number) (Out.Received channel seq attempt (Got.Refused m cause answer)) = true
keeps_body (Events.Drain node end) outcome = true
keeps_body (Events.Unload node end) outcome = true
keeps_body (Events.Load node end frame) outcome = true
keeps_body (Events.PageOut node end) outcome = true
keeps_body (Events.PageIn node end) outcome = true
keeps_body event outcome = false

-- whether an entry keeps the body where it finds the endpoint, in this state, on disk
abbrev pub keeps_on_disk : State → Entry → Bool
keeps_on_disk s x = not (is_on_disk s.head.place) || keeps_body x.event x.outcome

-- whether each of these entries does, from this state on
abbrev pub rests : EndpointId → State → List Entry → Bool
rests e s [] = true
rests e s (x ∷ xs) = keeps_on_disk s x && rests e (after e s x) xs

-- an endpoint that nothing moves lies where it lay, one of the packet network is never direct, and one on disk that nothing moves
-- keeps its body where its entries do
pub record PlacesAreKept : Type 0 where
  pub still : (e : EndpointId) (s : State) (xs : List Entry) → AllAre (λ (x : Entry). moves_by x.event ≡ false) xs → (replay e s xs).head.place ≡ s.head.place
  pub packet : (e : EndpointId) (s : State) (xs : List Entry) → is_direct s.head.place ≡ false → is_direct (replay e s xs).head.place ≡ false
  pub bodies : (e : EndpointId) (s : State) (xs : List Entry) → rests e s xs ≡ true → is_on_disk s.head.place ≡ true → AllAre (λ (x : Entry). moves_by x.event ≡ false) xs → (replay e s xs).body ≡ s.body
