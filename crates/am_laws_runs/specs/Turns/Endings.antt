-- What is so of every drain and its end: an unknown message stands only where the plan withholds packets of the last try, and where
-- the plan withholds none nothing is unknown. Two more are proved in crates above: that it ends by itself (`EachTurnFalls`) in
-- am_laws_runs::ends, and that where the plan withholds none what is returned is returned for good (`ReturnsAreForGood`) in am_laws_runs.
use Rattle.std.specs.Prelude.{◌≡◌, ◌≢◌, ◌⊎◌, ℕ, ◌+◌, ◌<◌, ◌≤◌, ◌^◌, ◌==◌, Bool, true, false, Option, Some, None, List, ◌∷◌, ◌++◌, map, length, slice_get}
use Rattle.std.specs.List.{All, list_any}
use Rattle.am_names.specs.Rules.{is_transient}
use Rattle.am_names.specs.declared.Cause.{Cause}
use Rattle.am_names.specs.declared.NodeId.{NodeId}
use Rattle.am_names.specs.declared.Serial.{Serial}
use Rattle.am_names.specs.declared.Parcel.{Parcel}
use Rattle.am_names.specs.declared.AnswerPacket.{AnswerPacket}
use Rattle.am_names.specs.declared.Packet.{Packet}
use Rattle.am_names.specs.declared.Packet.TheVariants as Packets
use Rattle.am_office_entries.specs.declared.Event.TheVariants as Events
use Rattle.am_office_entries.specs.declared.Outcome.TheVariants as Out
use Rattle.am_office_entries.specs.declared.Entry.{Entry}
use Rattle.am_office_entries.specs.declared.endings.Fate.TheVariants as Fates
use Rattle.am_office_entries.specs.Fates.{fate}
use Rattle.am_office_entries.specs.Entries.{emitted_of}
use Rattle.am_model.specs.Channels.{emitted, sequence, attempt}
use Rattle.am_model.specs.History.{channel_to}
use Rattle.am_model.specs.PostOffice.{Gave}
use Rattle.am_scenario_plan.specs.declared.plan.LinkFault.{LinkFault}
use Rattle.am_scenario_plan.specs.declared.plan.LinkFault.TheVariants.{Lose, Repeat, Late}
use Rattle.am_scenario_plan.specs.declared.plan.PlanLine.{PlanLine}
use Rattle.am_scenario_plan.specs.Shape.{fault_at, number_of, shape}
use Rattle.am_scenario_types.specs.Lists.{ScenarioLists}
use Rattle.am_model_scripts.specs.Follows.{KeepsLastTries}
use Rattle.am_model_scripts.specs.Links.{ReceivesInOrder, numbers_released, received}
use Rattle.am_model_scripts.specs.Layout.{layout_of}
use Rattle.am_model_scripts.specs.Standings.{standings}
use Rattle.am_model_drain.specs.declared.Turn.{Turn}
use Rattle.am_model_drain.specs.Rules.{next_page_in}
use Rattle.am_model_drain.specs.Drain.{after_next_turn, after_turn}
use Rattle.am_model_drain.specs.Follows.{FollowsScripts}
use Rattle.am_laws_runs.specs.Turns.Enabled.{IsOfRun}
use Rattle.am_laws_runs.specs.Turns.Work.{work}

-- the work that is left falls with each turn
abbrev pub EachTurnFalls : Type 0
EachTurnFalls =
    (s : ScenarioLists) (past next : List Entry) → IsOfRun s past → ReceivesInOrder s past → length past < 2 ^ 32 → after_next_turn s past ≡ Some next → work s next < work s past

-- so with a page-in that the drain names
abbrev pub PageInsFall : Type 0
PageInsFall =
    (s : ScenarioLists) (past : List Entry) (t : Turn) → IsOfRun s past → next_page_in (standings (layout_of s) past) ≡ Some t → work s (after_turn s past t) < work s past

-- whether a number is among these
abbrev pub is_among : ℕ → List ℕ → Bool
is_among number numbers = list_any (λ (n : ℕ). n == number) numbers

-- the last try of the sequence that a channel is in, which carries the message with this serial
pub record IsLastTry (past : List Entry) (node peer : NodeId) (channel : ℕ) (serial : Serial) (p : Parcel) : Type 0 where
  pub sent : Gave emitted_of past (Packets.Parcel p)
  pub carries : p.message.serial ≡ serial
  pub on : channel_to p.from p.to p.channel ≡ channel_to node peer channel
  pub seq' : p.seq ≡ sequence (channel_to node peer channel) past
  pub attempt' : p.attempt ≡ attempt (channel_to node peer channel) past

pub record IsAnswerTo (p : Parcel) (a : AnswerPacket) : Type 0 where
  pub from' : a.from ≡ p.to
  pub to' : a.to ≡ p.from
  pub channel' : a.channel ≡ p.channel
  pub seq' : a.seq ≡ p.seq
  pub attempt' : a.attempt ≡ p.attempt

-- the plan loses the packet at a place, or has it late beyond so many emissions
abbrev pub IsFaultOf : ℕ → ℕ → Option LinkFault → Type 0
IsFaultOf emissions place None = ⊥
IsFaultOf emissions place (Some Repeat) = ⊥
IsFaultOf emissions place (Some Lose) = Unit {0}
IsFaultOf emissions place (Some (Late by)) = emissions < place + by

-- A packet that was emitted on a link was not released: the plan has a line that loses it, or one that has it late, and the emission
-- that it waits for had not come.
pub record IsKeptBack (s : ScenarioLists) (past : List Entry) (from to : NodeId) (number : ℕ) : Type 0 where
  pub unreleased : is_among number (numbers_released s from to past) ≡ false
  pub planned : IsFaultOf (length (emitted from to past)) number (fault_at s.plan from to number)

-- A parcel was received and answered, and the plan kept each answer to it back.
pub record IsAnsweredInVain (s : ScenarioLists) (past : List Entry) (p : Parcel) : Type 0 where
  pub received' : is_among p.number (received p.from p.to past) ≡ true
  pub answer : AnswerPacket
  pub answered : Gave emitted_of past (Packets.Answer answer)
  pub to_parcel : IsAnswerTo p answer
  pub kept : (a : AnswerPacket) → Gave emitted_of past (Packets.Answer a) → IsAnswerTo p a → IsKeptBack s past a.from a.to a.number

-- There is the parcel of the last try, and the plan kept it back, or each answer to it.
pub record IsWithheld (s : ScenarioLists) (past : List Entry) (node peer : NodeId) (channel : ℕ) (serial : Serial) : Type 0 where
  pub parcel : Parcel
  pub last : IsLastTry past node peer channel serial parcel
  pub kept : IsKeptBack s past parcel.from parcel.to parcel.number ⊎ IsAnsweredInVain s past parcel

-- where a time-out leaves a message unknown, the plan withheld packets of its last try
abbrev pub UnknownIsPlanned : ScenarioLists → List Entry → Type 0
UnknownIsPlanned s journal =
    (past later : List Entry) (x : Entry) (node peer : NodeId) (channel : ℕ) (serial : Serial) → journal ≡ past ++ x ∷ later → x.event ≡ Events.Expire node peer channel → x.outcome ≡ Out.Unknown serial → IsWithheld s past node peer channel serial

-- a history of the scenario in which each packet is received in its turn and the last tries come last, as in each that follows the
-- scripts
pub record IsOrderly (s : ScenarioLists) (journal : List Entry) : Type 0 where
  pub run : IsOfRun s journal
  pub in_order : ReceivesInOrder s journal
  pub last_tries : KeepsLastTries s journal

-- there a message is unknown only where the plan withheld packets of the last try
abbrev pub UnknownIsWithheld : Type 0
UnknownIsWithheld = (s : ScenarioLists) (journal : List Entry) → IsOrderly s journal → UnknownIsPlanned s journal

-- where the emissions on a link are numbered in order and no packet is late by nothing, the plan withholds each packet that they have
-- not released
abbrev pub UnreleasedIsPlanned : Type 0
UnreleasedIsPlanned =
    (plan : List PlanLine) (from to : NodeId) (sent : List Packet) (number : ℕ) → ((i : ℕ) (p : Packet) → slice_get sent i ≡ Some p → number_of p ≡ i + 1) → ((place by : ℕ) → fault_at plan from to place ≡ Some (Late by) → 1 ≤ by) → 1 ≤ number → number ≤ length sent → is_among number (map number_of (shape plan from to sent)) ≡ false → IsFaultOf (length sent) number (fault_at plan from to number)

-- the plan has no line that loses a packet or has it late
abbrev pub WithholdsNothing : ScenarioLists → Type 0
WithholdsNothing s = All (λ (line : PlanLine). line.fault ≡ Repeat) s.plan

-- completeness: then nothing is unknown
abbrev pub NoneIsUnknown : Type 0
NoneIsUnknown =
    (s : ScenarioLists) (journal : List Entry) → IsOrderly s journal → WithholdsNothing s → (serial : Serial) → (fate journal serial ≢ Some Fates.Unknown) × (fate journal serial ≢ Some Fates.UnknownButRan)

-- and what is returned is returned for good
abbrev pub ReturnsAreForGood : Type 0
ReturnsAreForGood =
    (s : ScenarioLists) (journal : List Entry) → IsOfRun s journal → FollowsScripts s journal → WithholdsNothing s → (serial : Serial) (cause : Cause) → fate journal serial ≡ Some (Fates.Returned cause) → is_transient cause ≡ false
