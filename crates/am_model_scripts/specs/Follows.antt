-- Which entries are left to the end, which events a run has, and the phase of the threads.
use Rattle.std.specs.Prelude.{◌≡◌, ℕ, ◌+◌, ◌≤◌, Bool, true, false, ◌==◌, ◌||◌, not, Option, Some, None, List, [], count_by}
use Rattle.std.specs.List.{list_any, list_all, AllByRecursion}
use Rattle.am_names.specs.declared.NodeId.{NodeId}
use Rattle.am_office_entries.specs.declared.Actor.{Actor}
use Rattle.am_office_entries.specs.declared.Actor.TheVariants.{Thread, Outside}
use Rattle.am_office_entries.specs.declared.Call.{Call}
use Rattle.am_office_entries.specs.declared.Call.TheVariants as Calls
use Rattle.am_office_entries.specs.declared.Event.{Event}
use Rattle.am_office_entries.specs.declared.Event.TheVariants as Events
use Rattle.am_office_entries.specs.declared.Outcome.{Outcome}
use Rattle.am_office_entries.specs.declared.Outcome.TheVariants as Out
use Rattle.am_office_entries.specs.declared.Entry.{Entry}
use Rattle.am_office_entries.specs.Entries.{touches_node}
use Rattle.am_model.specs.declared.Queued.{Queued}
use Rattle.am_model.specs.Endpoint.{front}
use Rattle.am_model.specs.History.{EachAfter, state_of}
use Rattle.am_model.specs.Parts.{is_by_driver}
use Rattle.am_scenario_types.specs.declared.parts.ThreadLine.{ThreadLine}
use Rattle.am_scenario_types.specs.Lists.{ScenarioLists}
use Rattle.am_model_scripts.specs.Layout.{layout_of}
use Rattle.am_model_scripts.specs.Links.{nodes_of, is_all_received}

-- whether a message has bounced as often as it may
abbrev pub is_bounced_out : ℕ → Option Queued → Bool
is_bounced_out limit None = false
is_bounced_out limit (Some q) = q.bounces == limit

-- whether a bind or a time-out is of a kind that is left to the end: it sends the last try of a binding, it binds a message
-- after its last bounce, or it ends a binding whose tries are used up
abbrev pub is_last_in : ScenarioLists → List Entry → Event → Outcome → Bool
is_last_in scenario past (Events.Bind node end) (Out.Sent m peer channel seq attempt number) =
    (attempt + 1 == scenario.tries) || is_bounced_out scenario.bounces (front (state_of (layout_of scenario) past end))
is_last_in scenario past (Events.Expire node peer channel) (Out.Sent m to on seq attempt number) = attempt + 1 == scenario.tries
is_last_in scenario past (Events.Expire node peer channel) (Out.Delivered serial) = true
is_last_in scenario past (Events.Expire node peer channel) (Out.Unknown serial) = true
is_last_in scenario past event outcome = false

abbrev pub is_last : ScenarioLists → List Entry → Entry → Bool
is_last scenario past x = is_last_in scenario past x.event x.outcome

-- last tries come last: such entries stand only where all that was released was received
abbrev pub KeepsLastTries : ScenarioLists → List Entry → Type 0
KeepsLastTries scenario journal =
    EachAfter (λ (past : List Entry) (x : Entry). (not (is_last scenario past x) || is_all_received scenario past) ≡ true) [] journal

-- whether a thread is declared
abbrev pub is_thread : ScenarioLists → ℕ → Bool
is_thread scenario thread = list_any (λ (t : ThreadLine). t.id == thread) scenario.threads

-- whether an actor may make a call at all: a declared thread any, and anyone else a poll
abbrev pub may_call : ScenarioLists → Actor → Call → Bool
may_call scenario (Thread thread) call = is_thread scenario thread
may_call scenario Outside Calls.Poll = true
may_call scenario Outside call = false

abbrev pub may_want : ScenarioLists → Actor → Bool
may_want scenario (Thread thread) = is_thread scenario thread
may_want scenario Outside = false

-- whether an event is one of a run: a call or a want of a declared thread, a poll by anyone else, or an interface's or a
-- driver's
abbrev pub is_of_run : ScenarioLists → Event → Bool
is_of_run scenario (Events.Call actor end call) = may_call scenario actor call
is_of_run scenario (Events.Want actor end) = may_want scenario actor
is_of_run scenario (Events.Carry end) = false
is_of_run scenario event = true

-- other events
abbrev pub KeepsToEvents : ScenarioLists → List Entry → Type 0
KeepsToEvents scenario journal = list_all (λ (x : Entry). is_of_run scenario x.event) journal ≡ true

abbrev pub is_actor_thread : ℕ → Actor → Bool
is_actor_thread thread (Thread other) = thread == other
is_actor_thread thread Outside = false

-- whether a thread makes an event
abbrev pub is_by_thread : ℕ → Event → Bool
is_by_thread thread (Events.Call actor end call) = is_actor_thread thread actor
is_by_thread thread (Events.Want actor end) = is_actor_thread thread actor
is_by_thread thread event = false

abbrev pub is_outside : Actor → Bool
is_outside Outside = true
is_outside (Thread thread) = false

-- whether an event comes from none of the workers
abbrev pub is_by_outside : Event → Bool
is_by_outside (Events.Call actor end call) = is_outside actor
is_by_outside (Events.Want actor end) = is_outside actor
is_by_outside (Events.Carry end) = true
is_by_outside event = false

-- the phase: a journal of threads, interfaces and drivers, each with at most so many turns, without what is left to the end
pub record IsPhase (scenario : ScenarioLists) (journal : List Entry) : Type 0 where
  pub inside : list_any (λ (x : Entry). is_by_outside x.event) journal ≡ false
  pub threads : AllByRecursion (λ (t : ThreadLine). count_by (λ (x : Entry). is_by_thread t.id x.event) journal ≤ scenario.turns) scenario.threads
  pub interfaces : AllByRecursion (λ (node : NodeId). count_by (touches_node node) journal ≤ scenario.turns) (nodes_of scenario)
  pub drivers : AllByRecursion (λ (node : NodeId). count_by (is_by_driver node) journal ≤ scenario.turns) (nodes_of scenario)
  pub no_last : EachAfter (λ (past : List Entry) (x : Entry). is_last scenario past x ≡ false) [] journal
