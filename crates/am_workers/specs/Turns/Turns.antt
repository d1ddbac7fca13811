-- What the turns of the workers answer, and what they leave.
use Rattle.std.specs.Prelude.{◌≡◌, ◌≢◌, ◌⊎◌, ℕ, ◌+◌, ◌<◌, ◌≤◌, ◌^◌, max, false, true, Option, Some, None, List, [], ◌∷◌, ◌++◌, length, position}
use Rattle.am_names.specs.declared.EndpointId.{EndpointId}
use Rattle.am_names.specs.declared.Packet.TheVariants as Packets
use Rattle.am_names.specs.Names.{same_end}
use Rattle.am_office_entries.specs.declared.Actor.TheVariants.{Thread}
use Rattle.am_office_entries.specs.declared.Call.{Call}
use Rattle.am_office_entries.specs.declared.Event.TheVariants as Events
use Rattle.am_office_entries.specs.declared.Outcome.TheVariants as Out
use Rattle.am_office_entries.specs.declared.Entry.{Entry}
use Rattle.am_office_entries.specs.Entries.{emitted_of}
use Rattle.am_endpoint_body.specs.declared.settings.EndSettings.{EndSettings}
use Rattle.am_endpoint.specs.View.{state_by}
use Rattle.am_model.specs.Parts.{last_stamp}
use Rattle.am_model.specs.Calls.{outcome_of_call}
use Rattle.am_model.specs.Endpoint.{State, front, is_on_disk}
use Rattle.am_iface.specs.Turns.{stamp_after}
use Rattle.am_iface.specs.View.{InterfaceView, own}
use Rattle.am_model.specs.Channels.{attempt}
use Rattle.am_model_parts.specs.Interface.{channel_in, event_of, failing_at, needs, outcome_at}
use Rattle.am_model_parts.specs.declared.work.Work.{Work}
use Rattle.am_model_parts.specs.declared.work.Work.TheVariants as Works
use Rattle.am_model_scripts.specs.Follows.{is_bounced_out}
use Rattle.am_places.specs.declared.board.Tenure.{Tenure}
use Rattle.am_workers_laws.specs.Invariants.Seats.{EndPass, Ids, IsBusy, Stayed, Stays}
use Rattle.am_workers.specs.Turns.Tests.{can_do, is_fit, may_alone}
use Rattle.am_workers.specs.declared.turns.turns.ThreadTurn.{ThreadTurn}
use Rattle.am_workers.specs.declared.turns.turns.ThreadTurn.TheVariants as Turns
use Rattle.am_workers.specs.declared.turns.turns.InterfaceTurn.{InterfaceTurn}
use Rattle.am_workers.specs.declared.turns.turns.InterfaceTurn.TheVariants as Worked

-- ---- a thread's turn

-- the thread made its call
pub record IsCall (thread : ℕ) (call : Call) (clock : ℕ) (set : EndSettings) (log : List Entry) (x : Entry) : Type 0 where
  pub here : is_on_disk (state_by set log).head.place ≡ false
  pub event : x.event ≡ Events.Call (Thread thread) set.id call
  pub outcome : x.outcome ≡ outcome_of_call set.pool set.id (state_by set log) call
  pub stamped : x.stamp ≡ 1 + max clock (last_stamp log)
  pub low : max clock (last_stamp log) < 2 ^ 63

-- it wanted the endpoint, which is on disk and was not wanted
pub record IsWant (thread clock : ℕ) (set : EndSettings) (log : List Entry) (x : Entry) : Type 0 where
  pub away : is_on_disk (state_by set log).head.place ≡ true
  pub unwanted : (state_by set log).head.wanted ≡ false
  pub event : x.event ≡ Events.Want (Thread thread) set.id
  pub outcome : x.outcome ≡ Out.Silent
  pub stamped : x.stamp ≡ 1 + max clock (last_stamp log)
  pub low : max clock (last_stamp log) < 2 ^ 63

-- a call is due: the endpoint is in memory, or is on disk and was not wanted; and a stamp may follow
pub record IsCallDue (clock : ℕ) (set : EndSettings) (log : List Entry) : Type 0 where
  pub unwanted : is_on_disk (state_by set log).head.place ≡ true → (state_by set log).head.wanted ≡ false
  pub low : max clock (last_stamp log) < 2 ^ 63

-- what the thread found, for what it did: a full log is told only where a call is due, and want of memory only where the log isn't full
abbrev pub ThreadFound : ℕ → Call → ℕ → ThreadTurn → EndSettings → List Entry → Type 0
ThreadFound thread call clock (Turns.Made x) set log = IsCall thread call clock set log x
ThreadFound thread call clock (Turns.Wanted x) set log = IsWant thread clock set log x
ThreadFound thread call clock (Turns.Busy holder) set log = ⊥
ThreadFound thread call clock Turns.Waits set log = (is_on_disk (state_by set log).head.place ≡ true) × ((state_by set log).head.wanted ≡ true)
ThreadFound thread call clock Turns.Full set log = IsCallDue clock set log × (length log ≡ set.log)
ThreadFound thread call clock Turns.Spent set log = 2 ^ 63 ≤ max clock (last_stamp log)
ThreadFound thread call clock Turns.NoMemory set log = IsCallDue clock set log × (length log ≢ set.log)

-- what it added
abbrev pub made_in : ThreadTurn → List Entry
made_in (Turns.Made x) = x ∷ []
made_in (Turns.Wanted x) = x ∷ []
made_in turn = []

-- the stamp of its last entry
abbrev pub clock_after : ℕ → ThreadTurn → ℕ
clock_after clock (Turns.Made x) = x.stamp
clock_after clock (Turns.Wanted x) = x.stamp
clock_after clock turn = clock

abbrev pub ThreadTurns : ℕ → ℕ → Call → ℕ → EndPass → EndPass → ThreadTurn → Type 0
ThreadTurns k thread call clock v w (Turns.Busy holder) = IsBusy k holder v w
ThreadTurns k thread call clock v w turn = Stayed k (made_in turn) (ThreadFound thread call clock turn) v w

-- ---- an interface's turn with the endpoint k, which its work touches

-- a message that is bound may still bounce; a time-out that gives up is left to others
abbrev pub MayBounce : ℕ → State → Work → Type 0
MayBounce bounces s (Works.Bind end) = is_bounced_out bounces (front s) ≡ false
MayBounce bounces s (Works.Receive p) = Unit {0}
MayBounce bounces s (Works.Expire peer channel) = ⊥

-- a message that an answer settles is one of an endpoint in memory
abbrev pub SettlesHere : State → Work → Type 0
SettlesHere s (Works.Receive (Packets.Parcel p)) = Unit {0}
SettlesHere s (Works.Receive (Packets.Answer p)) = is_on_disk s.head.place ≡ false
SettlesHere s (Works.Bind end) = Unit {0}
SettlesHere s (Works.Expire peer channel) = Unit {0}

-- the interface did the work at the endpoint that it needs
pub record IsWork (work : Work) (i j : InterfaceView) (set : EndSettings) (log : List Entry) (x : Entry) : Type 0 where
  pub needed : needs (own i) work ≡ Some set.id
  pub enabled : failing_at (own i) (state_by set log) work ≡ None
  pub event : x.event ≡ event_of i.settings.node work
  pub outcome : x.outcome ≡ outcome_at (own i) (state_by set log) work
  pub stamped : x.stamp ≡ stamp_after (last_stamp log) i.log work
  pub low : x.stamp ≤ 2 ^ 63
  pub bounces : MayBounce i.settings.bounces (state_by set log) work
  pub can : can_do work i set log ≡ true
  pub logged : j ≡ record i { log = i.log ++ x ∷ [] }

-- a log has as many entries as it may
abbrev pub IsSomeFull : InterfaceView → EndSettings → List Entry → Type 0
IsSomeFull i set log = (length log ≡ set.log) ⊎ (length i.log ≡ i.settings.log)

-- the work can be done
abbrev pub IsEnabled : Work → InterfaceView → EndSettings → List Entry → Type 0
IsEnabled work i set log = failing_at (own i) (state_by set log) work ≡ None

-- what the interface found, for what it did, and what it is afterwards: a full log is told only where the work can be done, and want of
-- memory only where neither log is full
abbrev pub InterfaceFound : Work → InterfaceView → InterfaceView → InterfaceTurn → EndSettings → List Entry → Type 0
InterfaceFound work i j (Worked.Made t) set log = IsWork work i j set log t.entry × (t.out ≡ emitted_of t.entry)
InterfaceFound work i j (Worked.Busy holder) set log = ⊥
InterfaceFound work i j Worked.NotYet set log = (j ≡ i) × (can_do work i set log ≡ false)
InterfaceFound work i j Worked.Full set log = IsEnabled work i set log × IsSomeFull i set log × (j ≡ i) × (can_do work i set log ≡ true)
InterfaceFound work i j Worked.NoMemory set log =
    IsEnabled work i set log × (length log ≢ set.log) × (length i.log ≢ i.settings.log) × (j ≡ i) × (can_do work i set log ≡ true)

-- what it added
abbrev pub worked_in : InterfaceTurn → List Entry
worked_in (Worked.Made t) = t.entry ∷ []
worked_in turn = []

abbrev pub InterfaceTurns : ℕ → Work → InterfaceView → InterfaceView → EndPass → EndPass → InterfaceTurn → Type 0
InterfaceTurns k work i j v w (Worked.Busy holder) = IsBusy k holder v w × (j ≡ i)
InterfaceTurns k work i j v w turn = Stayed k (worked_in turn) (InterfaceFound work i j turn) v w

-- ---- an interface's turn, whatever its work touches

-- a time-out leaves the last try to others
abbrev pub HasTries : InterfaceView → Work → Type 0
HasTries i (Works.Expire peer channel) = attempt (channel_in (own i) peer channel) i.log + 2 < i.settings.tries
HasTries i (Works.Receive p) = Unit {0}
HasTries i (Works.Bind end) = Unit {0}

-- the interface did the work, which touches no endpoint
pub record IsAlone (work : Work) (i j : InterfaceView) (x : Entry) : Type 0 where
  pub needed : needs (own i) work ≡ None
  pub enabled : (s : State) → failing_at (own i) s work ≡ None
  pub event : x.event ≡ event_of i.settings.node work
  pub outcome : (s : State) → x.outcome ≡ outcome_at (own i) s work
  pub stamped : x.stamp ≡ stamp_after 0 i.log work
  pub low : x.stamp ≤ 2 ^ 63
  pub tries : HasTries i work
  pub can : may_alone i work ≡ true
  pub logged : j ≡ record i { log = i.log ++ x ∷ [] }

-- the seat added nothing: it did not enter, it met another seat, or it left as it had entered
pub data AddsNothing (v w : EndPass) : Type 0 where
  Same : w ≡ v → AddsNothing v w
  Shut : (k holder : ℕ) → IsBusy k holder v w → AddsNothing v w
  Still : (k : ℕ) (set : EndSettings) (place : ℕ) (log : List (Tenure Entry)) → Stays k set place log [] v w → AddsNothing v w

pub data IsDone (work : Work) (i j : InterfaceView) (v w : EndPass) (x : Entry) : Type 0 where
  Alone : w ≡ v → IsAlone work i j x → IsDone work i j v w x
  With : (k : ℕ) → Stayed k (x ∷ []) (λ (set : EndSettings) (log : List Entry). IsWork work i j set log x) v w → IsDone work i j v w x

abbrev pub AloneTurns : Work → InterfaceView → InterfaceView → InterfaceTurn → Type 0
AloneTurns work i j (Worked.Made t) = IsAlone work i j t.entry × (t.out ≡ emitted_of t.entry)
AloneTurns work i j (Worked.Busy holder) = ⊥
AloneTurns work i j Worked.NotYet = (j ≡ i) × (may_alone i work ≡ false)
AloneTurns work i j Worked.Full = (j ≡ i) × (may_alone i work ≡ true) × (length i.log ≡ i.settings.log)
AloneTurns work i j Worked.NoMemory = (j ≡ i) × (may_alone i work ≡ true) × (length i.log ≢ i.settings.log)

abbrev pub WorkTurns : Work → InterfaceView → InterfaceView → EndPass → EndPass → InterfaceTurn → Type 0
WorkTurns work i j v w (Worked.Made t) = IsDone work i j v w t.entry × (t.out ≡ emitted_of t.entry)
WorkTurns work i j v w turn = AddsNothing v w × (j ≡ i)

-- ---- why it did not do it

-- at the endpoint that the work needs: it is of another node, or a seat was inside, or it was found so. Where the endpoint was entered, nothing is done exactly
-- where the work can't be done, a full log is told only where it can be, and want of memory only where no log is full
abbrev pub FoundThere : Ids → EndpointId → Work → InterfaceView → EndPass → EndPass → InterfaceTurn → Type 0
FoundThere ids end work i v w (Worked.Made t) = Unit {0}
FoundThere ids end work i v w (Worked.Busy holder) = (k : ℕ) × (position (same_end end) ids ≡ Some k) × IsBusy k holder v w
FoundThere ids end work i v w Worked.NotYet =
    ((position (same_end end) ids ≡ None) × (w ≡ v))
    ⊎ ((k : ℕ) × (position (same_end end) ids ≡ Some k) × Stayed k [] (λ (set : EndSettings) (log : List Entry). can_do work i set log ≡ false) v w)
FoundThere ids end work i v w Worked.Full =
    (k : ℕ) × (position (same_end end) ids ≡ Some k) × Stayed k [] (λ (set : EndSettings) (log : List Entry). (can_do work i set log ≡ true) × IsSomeFull i set log) v w
FoundThere ids end work i v w Worked.NoMemory =
    (k : ℕ) × (position (same_end end) ids ≡ Some k) × Stayed k [] (λ (set : EndSettings) (log : List Entry). (can_do work i set log ≡ true) × (length log ≢ set.log) × (length i.log ≢ i.settings.log)) v w

-- a work that touches no endpoint: nothing is done exactly where a test of it fails
abbrev pub FoundAlone : Work → InterfaceView → InterfaceTurn → Type 0
FoundAlone work i (Worked.Made t) = Unit {0}
FoundAlone work i (Worked.Busy holder) = ⊥
FoundAlone work i Worked.NotYet = may_alone i work ≡ false
FoundAlone work i Worked.Full = (may_alone i work ≡ true) × (length i.log ≡ i.settings.log)
FoundAlone work i Worked.NoMemory = (may_alone i work ≡ true) × (length i.log ≢ i.settings.log)

abbrev pub FoundAt : Ids → Work → InterfaceView → EndPass → EndPass → InterfaceTurn → Option EndpointId → Type 0
FoundAt ids work i v w turn None = (w ≡ v) × FoundAlone work i turn
FoundAt ids work i v w turn (Some end) = FoundThere ids end work i v w turn

-- a work that does not fit is not done, and each other one by what was found of what it touches
abbrev pub WhyTurned : Ids → Work → InterfaceView → EndPass → EndPass → InterfaceTurn → Type 0
WhyTurned ids work i v w turn =
    ((is_fit i.settings work ≡ false) × (w ≡ v) × (turn ≡ Worked.NotYet)) ⊎ ((is_fit i.settings work ≡ true) × FoundAt ids work i v w turn (needs (own i) work))
