-- What a whole drain says of the run of a scenario with segments.
use Rattle.std.proofs.Common.{◌≡◌, ℕ, zero, suc, ◌+◌, ◌<◌, ◌≤◌, true, false, List, [], ◌∷◌, ◌++◌, length, Option, Some, None, Result, Ok, Err, inl, inr, refl}
use Rattle.std.proofs.Common.{sym, ◌∙◌, subst, arith, zero-add, slice_index}
use Rattle.std.specs.Prelude.{slice_get, ◌||◌, ◌≢◌, filter_map}
use Rattle.std.specs.List.{All, cons_option}
use Rattle.std.proofs.lemmas.List.FromFn.{get_or-map-range_with_len}
use Rattle.am_lemmas.proofs.Lists.{All-slice_get}
use mathlib.Core.Bool.{or-true}
use Rattle.am_names.specs.Names.{has_serial}
use Rattle.am_names.specs.Rules.{is_transient}
use Rattle.am_names.specs.declared.Cause.{Cause}
use Rattle.am_names.specs.declared.Message.{Message}
use Rattle.am_office_entries.specs.declared.Entry.{Entry}
use Rattle.am_office_entries.specs.declared.Part.{Part}
use Rattle.am_office_entries.specs.declared.endings.Fate.{Fate}
use Rattle.am_office_entries.specs.declared.endings.Fate.TheVariants as Fates
use Rattle.am_office_entries.specs.Entries.{accepted_of, passes}
use Rattle.am_office_entries.specs.Fates.{fate, fate_of_accepted, is_accepted}
use Rattle.am_office_report.specs.Report.{report}
use Rattle.am_scenario_types.specs.declared.faults.ScenarioFault.{ScenarioFault}
use Rattle.am_scenario.specs.Grammar.{grammar}
use Rattle.am_scenario_types.specs.declared.parts.Form.TheVariants as Forms
use Rattle.am_scenario_types.specs.Lists.{ScenarioLists}
use Rattle.am_model.specs.PostOffice.{WasAccepted}
use Rattle.am_model.proofs.Names.{same_serial-refl}
use Rattle.am_laws_runs.specs.Turns.Endings.{WithholdsNothing}
use Rattle.am_laws_runs.specs.Turns.Runs.{IsWholeRun}
use Rattle.am_cluster.specs.Runs.{IsRunCutOff, IsRunDone, ObeysRunLaws}
use Rattle.am_segment_pieces.specs.declared.segment.SegmentLine.{SegmentLine}
use Rattle.am_segment_pieces.specs.Segments.{byte_at, segment_bytes}
use Rattle.am_segment.specs.declared.scenario.SegmentScenario.{SegmentScenario}
use Rattle.am_segment.specs.Lists.{ExpandedLists}
use Rattle.am_segment.specs.Printed.{segments_text}
use Rattle.am_segment.specs.Expansion.{expansion}
use Rattle.am_segment.specs.Spelling.{read_expanded, segment_grammar, told_at, line_behind}
use Rattle.am_segment_pieces.specs.Laws.Laws.{IsFor}
use Rattle.am_segment.specs.Lawful.{HasSegment}
use Rattle.am_segment_pieces.proofs.Arrives.{blocks_arrive}
use Rattle.am_segment.proofs.Lawfully.{expansions_are_lawful}
use Rattle.am_main_lines.specs.Lines.{full_line, ids_of}
use Rattle.am_main_run.specs.Runs.{IsRunOf}
use Rattle.am_main_run.specs.Segments.Segments.{BlocksArrived, IsSegmentsAnswer, RanOrReturned}
use Rattle.am_main_run.proofs.RunMeaning.{is_run_of}

byte_in_segment : (s : SegmentLine) (journal : List Entry) (place : ℕ) → place < s.size → slice_index (segment_bytes s journal) place ≡ byte_at s journal place
unfolding segment_bytes
byte_in_segment s journal place below = get_or-map-range_with_len (byte_at s journal) 0 s.size place place 0 below (zero-add place)

blocks_arrived : (e : ExpandedLists) (journal : List Entry) → All (HasSegment e.segments) e.transfers → BlocksArrived e journal
blocks_arrived e journal placed i t s at is all undisturbed k below =
    let has : HasSegment e.segments t = All-slice_get (HasSegment e.segments) e.transfers i t placed at in
    let found : Some has.segment ≡ Some s = sym has.is ∙ is in
    let same : has.segment ≡ s = cc in
    let own : IsFor has.segment t = record { within = has.within; size = has.size; bytes = has.bytes } in
    let fits : IsFor s t = subst (λ (u : SegmentLine). IsFor u t) same own in
    let within : t.offset + length t.bytes ≤ s.size = fits.within in
    byte_in_segment s journal (t.offset + k) (omega arith) ∙ blocks_arrive s (i + 1) t journal fits all undisturbed k below

-- ---- the fate of an accepted message

accepted_step : (m : Message) (o : Option Message) (rest : List Entry) (k : ℕ) → slice_get (cons_option o (filter_map accepted_of rest)) k ≡ Some m →
    ((j : ℕ) → slice_get (filter_map accepted_of rest) j ≡ Some m → is_accepted rest m.serial ≡ true) →
    (passes (has_serial m.serial) o || is_accepted rest m.serial) ≡ true
accepted_step m None rest k at h = h k at
accepted_step m (Some n) rest zero at h =
    let same : m ≡ n = cc in
    subst (λ (q : Message). (has_serial m.serial q || is_accepted rest m.serial) ≡ true) same (rw (same_serial-refl m.serial) refl)
accepted_step m (Some n) rest (suc j) at h = rw (h j at) (or-true (has_serial m.serial n))

accepted_counts : (journal : List Entry) (m : Message) (k : ℕ) → slice_get (filter_map accepted_of journal) k ≡ Some m → is_accepted journal m.serial ≡ true
accepted_counts [] m k at = absurd (cc)
accepted_counts (x ∷ rest) m k at = accepted_step m (accepted_of x) rest k at (accepted_counts rest m)

has_fate : (journal : List Entry) (m : Message) → WasAccepted journal m → fate journal m.serial ≡ Some (fate_of_accepted journal m.serial)
has_fate journal m accepted = rw (accepted_counts journal m accepted.0 accepted.1) refl

settled_by : (journal : List Entry) (m : Message) (f : Fate) → fate journal m.serial ≡ Some f → fate journal m.serial ≢ Some Fates.Pending →
    (fate journal m.serial ≢ Some Fates.Unknown) × (fate journal m.serial ≢ Some Fates.UnknownButRan) →
    ((cause : Cause) → fate journal m.serial ≡ Some (Fates.Returned cause) → is_transient cause ≡ false) → RanOrReturned journal m
settled_by journal m Fates.Ran is pending unknown good = inl is
settled_by journal m (Fates.Returned cause) is pending unknown good = inr (cause, is, good cause is)
settled_by journal m Fates.Unknown is pending unknown good = absurd (unknown.0 is)
settled_by journal m Fates.UnknownButRan is pending unknown good = absurd (unknown.1 is)
settled_by journal m Fates.Pending is pending unknown good = absurd (pending is)

settled_for_good : (s : ScenarioLists) (journal : List Entry) → IsRunOf s journal → WithholdsNothing s → (m : Message) → WasAccepted journal m →
    RanOrReturned journal m
settled_for_good s journal run nothing m accepted =
    settled_by journal m (fate_of_accepted journal m.serial) (has_fate journal m accepted) (run.settled m accepted) (run.obeys.complete nothing m.serial)
    (run.obeys.for_good nothing m.serial)

-- ---- the answers

-- where the run came to its end
pub segments_reported : (s : SegmentScenario) (journal : List Entry) (text : List ℕ) → All (HasSegment s.expanded.segments) s.expanded.transfers →
    IsRunDone s.scenario journal → IsWholeRun s.scenario journal → ObeysRunLaws s.scenario journal →
    text ≡ report (ids_of s.scenario.ends) journal ++ segments_text s.expanded journal → IsSegmentsAnswer s (record { status = 0; text = text })
segments_reported s journal text placed done whole obeys printed =
    let run : IsRunOf s.scenario journal = is_run_of s.scenario journal done whole obeys in
    inl (
      refl,
      record {
        journal = journal;
        run = run;
        text' = printed;
        arrived = blocks_arrived s.expanded journal placed;
        settled = settled_for_good s.scenario journal run;
      },
    )

-- and where it met a full log
pub segments_cut : (s : SegmentScenario) (part : Part) (journal : List Entry) (text : List ℕ) → IsRunCutOff s.scenario part journal →
    text ≡ full_line part ++ report (ids_of s.scenario.ends) journal → IsSegmentsAnswer s (record { status = 6; text = text })
segments_cut s part journal text cut printed = inr (refl, (part, record { journal = journal; cut = cut; text' = printed }))

-- ---- a scenario that was read has a segment for each transfer

abbrev spelled : ExpandedLists → ScenarioLists → SegmentScenario
spelled e scenario = record { expanded = e; scenario = scenario }

told_placed : (behind : ℕ) (e : ExpandedLists) (q : Result ScenarioLists ScenarioFault) (s : SegmentScenario) → All (HasSegment e.segments) e.transfers →
    told_at behind e q ≡ Ok s → All (HasSegment s.expanded.segments) s.expanded.transfers
told_placed behind e (Ok scenario) s placed is =
    let same : spelled e scenario ≡ s = cc in
    subst (λ (r : SegmentScenario). All (HasSegment r.expanded.segments) r.expanded.transfers) same placed
told_placed behind e (Err fault) s placed is = absurd (cc)

read_placed : (bytes : List ℕ) (r : Result ExpandedLists ScenarioFault) (s : SegmentScenario) → expansion bytes ≡ r →
    read_expanded (line_behind bytes) r ≡ Ok s → All (HasSegment s.expanded.segments) s.expanded.transfers
read_placed bytes (Ok e) s expanded is = told_placed (line_behind bytes) e (grammar Forms.Run e.text) s (expansions_are_lawful bytes e expanded) is
read_placed bytes (Err fault) s expanded is = absurd (cc)

pub segments_placed : (bytes : List ℕ) (s : SegmentScenario) → segment_grammar bytes ≡ Ok s → All (HasSegment s.expanded.segments) s.expanded.transfers
unfolding segment_grammar
segments_placed bytes s is = read_placed bytes (expansion bytes) s refl is
