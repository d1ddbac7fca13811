-- What the endpoints of a journal show, and where this was read again.
use Rattle.std.specs.Prelude.{◌≡◌, ℕ, Bool, false, ◌==◌, ◌&&◌, not, is_some, length, slice_get, Option, Some, None, List, if◌then◌else◌}
use Rattle.am_bit_set.specs.Places.{is_marked}
use Rattle.am_bit_set.specs.declared.BitSet.{BitSet}
use Rattle.am_names.specs.declared.EndpointId.{EndpointId}
use Rattle.am_names.specs.Names.{same_end}
use Rattle.am_office_entries.specs.declared.Entry.{Entry}
use Rattle.am_office_entries.specs.Entries.{touches}
use Rattle.am_model.specs.Changes.{has_arrivals}
use Rattle.am_model.specs.Endpoint.{State, front, is_on_disk}
use Rattle.am_model.specs.History.{state_of}
use Rattle.am_model.specs.Layout.{EndSetting, Layout}
use Rattle.am_scenario_types.specs.declared.parts.EndLine.{EndLine}
use Rattle.am_cluster_drainer.specs.declared.EndTest.{EndTest}
use Rattle.am_cluster_drainer.specs.declared.EndTest.TheVariants.{Reply, Front, Arrival}
use Rattle.am_cluster_scripted.specs.declared.end_marks.EndMarks.{EndMarks}

-- ---- what an endpoint tells; the lists of one on disk aren't looked at

abbrev pub unless_away : State → Bool → Bool
unless_away s b = if is_on_disk s.head.place then false else b

abbrev pub told_missed : State → Bool
told_missed s = s.head.wanted && is_on_disk s.head.place

abbrev pub told_reply : State → Bool
told_reply s = unless_away s (not (length s.body.replies == 0))

abbrev pub told_front : State → Bool
told_front s = unless_away s (is_some (front s))

abbrev pub told_arrival : State → Bool
told_arrival s = unless_away s (has_arrivals s.body)

-- what tells whether an endpoint shows what it is looked for
abbrev pub told_by : EndTest → State → Bool
told_by Reply s = told_reply s
told_by Front s = told_front s
told_by Arrival s = told_arrival s

-- ---- the marks of the endpoints that tell so

abbrev pub told_at : (State → Bool) → Layout → List Entry → Option EndSetting → Bool
told_at told layout past None = false
told_at told layout past (Some e) = told (state_of layout past e.id)

abbrev pub AreOf : (State → Bool) → Layout → List Entry → BitSet → Type 0
AreOf told layout past marks = (k : ℕ) → is_marked marks k ≡ told_at told layout past (slice_get layout.ends k)

pub record AreMarked (layout : Layout) (past : List Entry) (m : EndMarks) : Type 0 where
  pub missed : AreOf told_missed layout past m.missed
  pub replies : AreOf told_reply layout past m.replies
  pub fronts : AreOf told_front layout past m.fronts
  pub arrivals : AreOf told_arrival layout past m.arrivals

-- no endpoint
pub record AreNone (m : EndMarks) : Type 0 where
  pub missed : (k : ℕ) → is_marked m.missed k ≡ false
  pub replies : (k : ℕ) → is_marked m.replies k ≡ false
  pub fronts : (k : ℕ) → is_marked m.fronts k ≡ false
  pub arrivals : (k : ℕ) → is_marked m.arrivals k ≡ false

-- ---- what is read again

abbrev pub IsAgain : (ℕ → Bool) → (State → Bool) → Layout → List Entry → BitSet → BitSet → Type 0
IsAgain again told layout past old new = (k : ℕ) → is_marked new k ≡ (if again k then told_at told layout past (slice_get layout.ends k) else is_marked old k)

pub record AreAgain (again : ℕ → Bool) (layout : Layout) (past : List Entry) (old new : EndMarks) : Type 0 where
  pub missed : IsAgain again told_missed layout past old.missed new.missed
  pub replies : IsAgain again told_reply layout past old.replies new.replies
  pub fronts : IsAgain again told_front layout past old.fronts new.fronts
  pub arrivals : IsAgain again told_arrival layout past old.arrivals new.arrivals

-- at a place
abbrev pub MarksPlace : Layout → List Entry → ℕ → EndMarks → EndMarks → Type 0
MarksPlace layout past place old new = AreAgain (λ (k : ℕ). k == place) layout past old new

-- at the endpoint with this number, if there is one
abbrev pub is_end : Option EndpointId → Option EndSetting → Bool
is_end None e = false
is_end (Some id) None = false
is_end (Some id) (Some e) = same_end e.id id

abbrev pub MarksEnd : Layout → List Entry → Option EndpointId → EndMarks → EndMarks → Type 0
MarksEnd layout past id old new = AreAgain (λ (k : ℕ). is_end id (slice_get layout.ends k)) layout past old new

-- at the endpoints that an entry touches
abbrev pub is_touched : Entry → Option EndSetting → Bool
is_touched x None = false
is_touched x (Some e) = touches e.id x

abbrev pub MarksTouched : Layout → List Entry → Entry → EndMarks → EndMarks → Type 0
MarksTouched layout past x old new = AreAgain (λ (k : ℕ). is_touched x (slice_get layout.ends k)) layout past old new

-- the place of the endpoint with this number, and none exactly where none has it
abbrev pub HasPlace : List EndLine → EndpointId → Option ℕ → Type 0
HasPlace lines id None = (k : ℕ) (line : EndLine) → slice_get lines k ≡ Some line → line.id.0 ≡ id.0 → ⊥
HasPlace lines id (Some place) = (line : EndLine) × (slice_get lines place ≡ Some line) × (line.id.0 ≡ id.0)
