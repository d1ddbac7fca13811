-- What the command `segments` answers, and what its answers say of the cluster.
use Rattle.std.specs.Prelude.{◌≡◌, ◌⊎◌, ℕ, ◌+◌, ◌<◌, false, List, ◌++◌, length, slice_get, slice_index, Some, Result, Ok, Err}
use Rattle.am_names.specs.Rules.{is_transient}
use Rattle.am_names.specs.declared.Cause.{Cause}
use Rattle.am_names.specs.declared.Message.{Message}
use Rattle.am_office_entries.specs.declared.Entry.{Entry}
use Rattle.am_office_entries.specs.declared.Part.{Part}
use Rattle.am_office_entries.specs.declared.endings.Fate.TheVariants as Fates
use Rattle.am_office_entries.specs.Fates.{fate}
use Rattle.am_office_report.specs.Report.{report}
use Rattle.am_scenario_types.specs.declared.faults.ScenarioFault.{ScenarioFault}
use Rattle.am_model.specs.PostOffice.{WasAccepted}
use Rattle.am_laws_runs.specs.Turns.Endings.{WithholdsNothing}
use Rattle.am_segment_pieces.specs.declared.segment.SegmentLine.{SegmentLine}
use Rattle.am_segment_pieces.specs.Lists.{TransferLists}
use Rattle.am_segment_pieces.specs.Blocks.{piece_count}
use Rattle.am_segment_pieces.specs.Segments.{ran_count, segment_bytes, segment_of}
use Rattle.am_segment.specs.declared.scenario.SegmentScenario.{SegmentScenario}
use Rattle.am_segment.specs.Lists.{ExpandedLists}
use Rattle.am_segment.specs.Printed.{segments_text}
use Rattle.am_segment_pieces.specs.Laws.Laws.{IsUndisturbed}
use Rattle.am_main_lines.specs.Lines.{Answer, ids_of, refusal}
use Rattle.am_main_run.specs.Runs.{IsRunOf, PrintsCutRun}

-- Where all pieces of a transfer ran, and after the first of these runs no other piece was written over one of its places, the
-- segment holds the block at its places.
abbrev pub BlocksArrived : ExpandedLists → List Entry → Type 0
BlocksArrived e journal =
    (i : ℕ) (t : TransferLists) (s : SegmentLine) → slice_get e.transfers i ≡ Some t → segment_of e.segments t.dest ≡ Some s → ran_count journal s (i + 1) t ≡ piece_count t → IsUndisturbed journal s (i + 1) t → (k : ℕ) → k < length t.bytes → slice_index (segment_bytes s journal) (t.offset + k) ≡ slice_index t.bytes k

-- it ran, or was returned for a cause that isn't transient
abbrev pub RanOrReturned : List Entry → Message → Type 0
RanOrReturned journal m = (fate journal m.serial ≡ Some Fates.Ran) ⊎ ((cause : Cause) × (fate journal m.serial ≡ Some (Fates.Returned cause)) × (is_transient cause ≡ false))

-- THE HEADLINE, for the command `segments`: the text is the report of the journal of the scenario's run, and behind it the bytes of
-- the segments and what ran of each transfer. Blocks arrive; and where the plan withholds nothing, each accepted message ran or was
-- returned for good, among them each request that carries a piece.
pub record PrintsSegments (s : SegmentScenario) (text : List ℕ) : Type 0 where
  pub journal : List Entry
  pub run : IsRunOf s.scenario journal
  pub text' : text ≡ report (ids_of s.scenario.ends) journal ++ segments_text s.expanded journal
  pub arrived : BlocksArrived s.expanded journal
  pub settled : WithholdsNothing s.scenario → (m : Message) → WasAccepted journal m → RanOrReturned journal m

-- the answer to a scenario with segments: where the run meets a full log it is that of `run`
abbrev pub IsSegmentsAnswer : SegmentScenario → Answer → Type 0
IsSegmentsAnswer s answer =
    ((answer.status ≡ 0) × PrintsSegments s answer.text) ⊎ ((answer.status ≡ 6) × ((part : Part) × PrintsCutRun s.scenario part answer.text))

-- the answer to what a text spells, or to its first fault
abbrev pub SegmentsAnswers : Result SegmentScenario ScenarioFault → Answer → Type 0
SegmentsAnswers (Ok s) answer = IsSegmentsAnswer s answer
SegmentsAnswers (Err fault) answer = answer ≡ refusal fault

-- a text spells no scenario with segments, or one without turns
abbrev pub HasNoTurns : Result SegmentScenario ScenarioFault → Type 0
HasNoTurns (Ok s) = s.scenario.turns ≡ 0
HasNoTurns (Err fault) = Unit {0}

-- `segments` has at most one answer to what a text without turns spells
abbrev pub SegmentsHaveOneAnswer : Type 0
SegmentsHaveOneAnswer =
    (read : Result SegmentScenario ScenarioFault) (one other : Answer) → HasNoTurns read → SegmentsAnswers read one → SegmentsAnswers read other → one ≡ other
