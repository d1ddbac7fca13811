-- What moves an endpoint, and where to.
use Rattle.std.proofs.Common.{◌≡◌, ℕ, Bool, true, false, List, [], ◌∷◌, ◌++◌, Option, None, refl, ap, ◌∙◌}
use Rattle.std.proofs.lemmas.Bool.{and_parts, and_from}
use Rattle.am_lemmas.proofs.Bools.{implied}
use Rattle.am_names.specs.declared.Cause.{Cause}
use Rattle.am_names.specs.declared.Cause.TheVariants.{NotResident}
use Rattle.am_names.specs.declared.Message.{Message}
use Rattle.am_names.specs.declared.EndpointId.{EndpointId}
use Rattle.am_office_entries.specs.declared.Event.{Event}
use Rattle.am_office_entries.specs.declared.Event.TheVariants as Events
use Rattle.am_office_entries.specs.declared.Outcome.{Outcome}
use Rattle.am_office_entries.specs.declared.Outcome.TheVariants as Out
use Rattle.am_office_entries.specs.declared.Received.TheVariants as Got
use Rattle.am_office_entries.specs.declared.Place.{Place}
use Rattle.am_office_entries.specs.declared.Entry.{Entry}
use Rattle.am_model.specs.Changes.{after, changed, received, replay}
use Rattle.am_model.specs.Endpoint.{State, is_direct, is_on_disk}
use Rattle.am_model.specs.Layout.{AllAre}
use Rattle.am_model.proofs.Unchanged.{paged_out_body, paged_in_body}
use Rattle.am_model_parts.proofs.Frames.{changed_place, place_by, place_given}
use Rattle.am_workers_laws.specs.Phases.Lying.{PlacesAreKept, keeps_body, keeps_on_disk, moves_by, rests}

none_given : (event : Event) (o : Outcome) → moves_by event ≡ false → place_given event o ≡ None
none_given (Events.Load node end frame) o h = absurd (cc)
none_given (Events.Unload node end) o h = absurd (cc)
none_given (Events.PageOut node end) o h = absurd (cc)
none_given (Events.PageIn node end) o h = absurd (cc)
none_given event o h = refl

pub still : (e : EndpointId) (s : State) (xs : List Entry) → AllAre (λ (x : Entry). moves_by x.event ≡ false) xs → (replay e s xs).head.place ≡ s.head.place
still e s [] h = refl
still e s (x ∷ xs) h =
    still e (after e s x) xs h.1
    ∙ changed_place e s x.event x.outcome
    ∙ ap (λ (p : Option Place). place_by p s.head.place) (none_given x.event x.outcome h.0)

given_packet : (event : Event) (o : Outcome) (place : Place) → is_direct place ≡ false → is_direct (place_by (place_given event o) place) ≡ false
given_packet (Events.Unload node end) o place h = refl
given_packet (Events.Load node end frame) o place h = refl
given_packet (Events.PageOut node end) Out.Done place h = refl
given_packet (Events.PageIn node end) Out.Done place h = refl
given_packet event o place h = h

packet : (e : EndpointId) (s : State) (xs : List Entry) → is_direct s.head.place ≡ false → is_direct (replay e s xs).head.place ≡ false
packet e s [] h = h
packet e s (x ∷ xs) h = packet e (after e s x) xs (ap is_direct (changed_place e s x.event x.outcome) ∙ given_packet x.event x.outcome s.head.place h)

-- ---- bodies on disk

refused_body : (e : EndpointId) (s : State) (m : Message) (cause : Cause) (answer : ℕ) → (received e s (Got.Refused m cause answer)).body ≡ s.body
refused_body e s m NotResident answer = refl
refused_body e s m cause answer = refl

pub body_kept : (e : EndpointId) (s : State) (event : Event) (o : Outcome) → keeps_body event o ≡ true → (changed e s event o).body ≡ s.body
body_kept e s (Events.Want actor end) o h = refl
body_kept e s (Events.Receive node peer number) (Out.Received channel seq attempt (Got.Refused m cause answer)) h = refused_body e s m cause answer
body_kept e s (Events.Drain node end) o h = refl
body_kept e s (Events.Unload node end) o h = refl
body_kept e s (Events.Load node end frame) o h = refl
body_kept e s (Events.PageOut node end) o h = paged_out_body s o
body_kept e s (Events.PageIn node end) o h = paged_in_body s o
body_kept e s event o h = absurd (cc)

bodies : (e : EndpointId) (s : State) (xs : List Entry) → rests e s xs ≡ true → is_on_disk s.head.place ≡ true →
    AllAre (λ (x : Entry). moves_by x.event ≡ false) xs → (replay e s xs).body ≡ s.body
bodies e s [] r on h = refl
bodies e s (x ∷ xs) r on h =
    let parts = and_parts (keeps_on_disk s x) (rests e (after e s x) xs) r in
    let kept : keeps_body x.event x.outcome ≡ true = implied (is_on_disk s.head.place) (keeps_body x.event x.outcome) on parts.0 in
    let there : is_on_disk (after e s x).head.place ≡ true = ap is_on_disk (still e s (x ∷ []) (h.0, tt)) ∙ on in
    bodies e (after e s x) xs parts.1 there h.1 ∙ body_kept e s x.event x.outcome kept

-- one entry more
pub rests_push : (e : EndpointId) (s : State) (xs : List Entry) (x : Entry) → rests e s xs ≡ true → keeps_on_disk (replay e s xs) x ≡ true →
    rests e s (xs ++ x ∷ []) ≡ true
rests_push e s [] x r h = and_from (keeps_on_disk s x) true h refl
rests_push e s (y ∷ ys) x r h =
    let parts = and_parts (keeps_on_disk s y) (rests e (after e s y) ys) r in
    and_from (keeps_on_disk s y) (rests e (after e s y) (ys ++ x ∷ [])) parts.0 (rests_push e (after e s y) ys x parts.1 h)

-- what comes after some of them
pub rests_then : (e : EndpointId) (s : State) (xs ys : List Entry) → rests e s (xs ++ ys) ≡ true → rests e (replay e s xs) ys ≡ true
rests_then e s [] ys r = r
rests_then e s (x ∷ xs) ys r = rests_then e (after e s x) xs ys (and_parts (keeps_on_disk s x) (rests e (after e s x) (xs ++ ys)) r).1

pub places_are_kept : PlacesAreKept
places_are_kept = record { still = still; packet = packet; bodies = bodies }
