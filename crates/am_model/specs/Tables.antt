-- What keeps an event from happening, as ordered tables: each row is a test and the condition that it names, and the first
-- row whose test holds is the answer (`first_holding`). A table reads the state of the endpoint and a few facts beside it,
-- so the journal, an interface, a driver and a machine each ask the same table about what they know. And what an attempt
-- comes to where a limit is reached.
use Rattle.std.specs.Prelude.{ℕ, ◌+◌, Bool, ◌==◌, ◌&&◌, not, nat_lt, Option, is_none, List, [], ◌∷◌, length, if◌then◌else◌}
use Rattle.am_names.specs.Rules.{is_transient}
use Rattle.am_names.specs.declared.Cause.{Cause}
use Rattle.am_names.specs.declared.Serial.{Serial}
use Rattle.am_office_entries.specs.declared.Condition.{Condition}
use Rattle.am_office_entries.specs.declared.Condition.TheVariants as Needs
use Rattle.am_office_entries.specs.declared.Outcome.{Outcome}
use Rattle.am_office_entries.specs.declared.Outcome.TheVariants as Out
use Rattle.am_model.specs.Endpoint.{State, is_resident, is_on_disk, is_on_host, front}

-- a call needs an endpoint that is not on disk
abbrev pub call_table : State → List (Bool × Condition)
call_table s = (is_on_disk s.head.place, Needs.OnDisk) ∷ []

-- a want needs one that is
abbrev pub want_table : State → List (Bool × Condition)
want_table s = (not (is_on_disk s.head.place), Needs.NotOnDisk) ∷ []

-- a carry needs a front message
abbrev pub carry_table : State → List (Bool × Condition)
carry_table s = (is_none (front s), Needs.NoMessage) ∷ []

-- a bind needs an endpoint of the node, in a frame and not draining, a front message, and a free channel for it
abbrev pub bind_table : Bool → State → Option ℕ → List (Bool × Condition)
bind_table of_node s channel =
    (not of_node, Needs.OtherNode)
    ∷ (not (is_resident s.head.place), Needs.NotResident)
    ∷ (s.head.draining, Needs.Draining)
    ∷ (is_none (front s), Needs.NoMessage)
    ∷ (is_none channel, Needs.NoChannel)
    ∷ []

-- a time-out needs a channel with a message
abbrev pub expire_table : Bool → List (Bool × Condition)
expire_table bound = (not bound, Needs.Idle) ∷ []

-- a drain needs an endpoint of the node, in a frame and not draining yet
abbrev pub drain_table : Bool → State → List (Bool × Condition)
drain_table of_node s =
    (not of_node, Needs.OtherNode) ∷ (not (is_resident s.head.place), Needs.NotResident) ∷ (s.head.draining, Needs.Draining) ∷ []

-- an unload needs an endpoint of the node, in a frame, draining, and with nothing in flight
abbrev pub unload_table : Bool → State → List (Bool × Condition)
unload_table of_node s =
    (not of_node, Needs.OtherNode)
    ∷ (not (is_resident s.head.place), Needs.NotResident)
    ∷ (not s.head.draining, Needs.NotDraining)
    ∷ (not (length s.body.in_flight == 0), Needs.InFlight)
    ∷ []

-- a load needs an endpoint of the node, on the host and not closed, and a frame that no endpoint holds
abbrev pub load_table : Bool → State → Bool → List (Bool × Condition)
load_table of_node s held =
    (not of_node, Needs.OtherNode)
    ∷ (not (is_on_host s.head.place), Needs.NotOnHost)
    ∷ (s.head.closed, Needs.Closed)
    ∷ (held, Needs.FrameHeld)
    ∷ []

-- a page-out needs an endpoint of the node, on the host and not closed
abbrev pub page_out_table : Bool → State → List (Bool × Condition)
page_out_table of_node s =
    (not of_node, Needs.OtherNode) ∷ (not (is_on_host s.head.place), Needs.NotOnHost) ∷ (s.head.closed, Needs.Closed) ∷ []

-- a page-in needs an endpoint of the node, on disk
abbrev pub page_in_table : Bool → State → List (Bool × Condition)
page_in_table of_node s = (not of_node, Needs.OtherNode) ∷ (not (is_on_disk s.head.place), Needs.NotOnDisk) ∷ []

-- what comes of a page call, which fails or not
abbrev pub page_ended : Bool → Outcome
page_ended fails = if fails then Out.Failed else Out.Done

-- whether a message that was refused for this cause, and bounced so often, may bounce once more below the limit
abbrev pub may_bounce : ℕ → Cause → ℕ → Bool
may_bounce limit cause bounces = is_transient cause && nat_lt bounces limit

-- whether a channel whose last try was this attempt (the first is 0) may try once more below the limit of tries
abbrev pub may_try : ℕ → ℕ → Bool
may_try limit attempt = nat_lt (attempt + 1) limit

-- what comes of a message whose last try timed out, by whether a reply to it came
abbrev pub tries_ended : Serial → Bool → Outcome
tries_ended serial answered = if answered then Out.Delivered serial else Out.Unknown serial
