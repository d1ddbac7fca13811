-- What the steps of a script make, in other words.
use Rattle.std.specs.Prelude.{◌≡◌, ◌+◌, true, Option, Some, None, List, [], map, length, take, slice_get}
use Rattle.std.specs.List.{range_with_len}
use Rattle.am_office_entries.specs.declared.Event.{Event}
use Rattle.am_office_entries.specs.declared.Entry.{Entry}
use Rattle.am_model.specs.Layout.{Layout, AllAre}
use Rattle.am_model.specs.History.{EachAfter, IsHistory, is_in_range}
use Rattle.am_model.specs.Parts.{AreBelow}
use Rattle.am_model.specs.Steps.{FollowsSteps, Made, Stop, stop}

-- a history whose stamps are 1, 2, 3 and so on
pub record Walked (layout : Layout) (past : List Entry) : Type 0 where
  pub history : IsHistory layout past
  pub stamped : map (λ (x : Entry). x.stamp) past ≡ range_with_len 1 (length past)
  pub below : AreBelow (length past + 1) past

-- the numbers of each event are in range
abbrev pub AreInRange : Layout → List Event → Type 0
AreInRange layout events = AllAre (λ (event : Event). is_in_range layout event ≡ true) events

-- the step that stands next is stopped for this
abbrev pub StopsAt : Layout → List Entry → Option Event → Stop → Type 0
StopsAt layout past None why = ⊥
StopsAt layout past (Some event) why = stop layout past event ≡ Some why

-- nothing stopped the event of this entry
abbrev pub IsUnstopped : Layout → List Entry → Entry → Type 0
IsUnstopped layout past x = stop layout past x.event ≡ None

-- The journal is a history that follows the steps: all of them, or those before the first that is stopped. No step before
-- that one is stopped, neither by a condition nor by a full log.
pub record IsMade (layout : Layout) (events : List Event) (m : Made) : Type 0 where
  pub history : IsHistory layout m.journal
  pub follows : FollowsSteps (take (length m.journal) events) m.journal
  pub unstopped : EachAfter (IsUnstopped layout) [] m.journal
  pub whole : m.stopped ≡ None → length m.journal ≡ length events
  pub stopped : (why : Stop) → m.stopped ≡ Some why → StopsAt layout m.journal (slice_get events (length m.journal)) why
