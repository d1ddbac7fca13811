-- What is told of a right report of a run.
use Rattle.std.proofs.Common.{◌≡◌, ◌≢◌, ℕ, ◌<◌, ◌≤◌, List, drop, length, Result, Ok, Err, inl, inr, refl, sym, ap, ◌∙◌, subst}
use Rattle.std.specs.Prelude.{IfOk}
use Rattle.am_check.specs.Follows.{ids_of}
use Rattle.am_check.specs.Verdict.{IsReportOf}
use Rattle.am_check.proofs.Returning.{begun_by}
use Rattle.am_check.specs.Laws.Laws.{IsRunHistory, IsTrueReport}
use Rattle.am_main_step.specs.Checks.{CheckAnswers}
use Rattle.am_main_lines.specs.declared.outputs.Output.{Output}
use Rattle.am_main_lines.specs.Lines.{Answer, answer_in}
use Rattle.am_office_entries.specs.declared.Entry.{Entry}
use Rattle.am_office_report.specs.Report.{report}
use Rattle.am_scenario_types.specs.declared.parts.Form.TheVariants.{Run}
use Rattle.am_scenario_types.specs.Lawful.{IsLawful}
use Rattle.am_scenario_types.specs.Lists.{ScenarioLists}
use Rattle.am_lab_reasons.proofs.Parted.{place_in, scenario_in}
use Rattle.am_lab_reasons.specs.Parts.{HasParts, HasReport}
use Rattle.am_lab_scenarios.specs.Replays.Laws.{ReplaysAreTheRun, replay_of}
use Rattle.am_lab_scenarios.specs.Texts.Replays.{IsReportOfRun, ReplayAnswers, TellsRun, journal_too_long}

-- ---- a journal's replay

abbrev told_with : List ℕ → Answer
told_with text = record { status = 0; text = text }

pub prints_replay : ReplaysAreTheRun → (s : ScenarioLists) (journal : List Entry) (text : List ℕ) → IsLawful s → IsRunHistory s journal →
    length journal ≤ 65_536 → text ≡ replay_of s journal → TellsRun s journal (told_with text)
prints_replay law s journal text lawful run few is = inl (record { few = few; answer' = ap told_with is; again = law s journal lawful run few })

pub tells_too_long : (s : ScenarioLists) (journal : List Entry) (answer : Answer) → 65_536 < length journal → answer ≡ journal_too_long →
    TellsRun s journal answer
tells_too_long s journal answer many is = inr (many, is)

-- ---- a report and its journal

-- the report of a run's journal is one to which the checker says yes
abbrev pub checked_report : (s : ScenarioLists) (bytes : List ℕ) (journal : List Entry) → IsReportOfRun s bytes journal → IsReportOf Run s bytes
checked_report s bytes journal r =
    let passes = begun_by Run s journal r.history in
    record { journal = journal; begun = passes.0; ended = passes.1; text = r.report' }

-- a right report stands behind its scenario
abbrev pub has_report : (text : List ℕ) → IsTrueReport Run text → HasReport Run text
has_report text r = record { place = r.place; place' = r.place'; scenario = r.scenario; spelled = r.spelled }

-- the report that was cut off is that of the journal
pub report_is : (text : List ℕ) (s : ScenarioLists) (bytes : List ℕ) (r : IsTrueReport Run text) → HasParts Run text s bytes → IsReportOfRun s bytes r.journal
report_is text s bytes r p =
    let h = has_report text r in
    let same = scenario_in Run text h s bytes p in
    record {
      history = subst (λ (z : ScenarioLists). IsRunHistory z r.journal) same r.history;
      report' = p.report' ∙ ap (λ (n : ℕ). drop n text) (sym (place_in Run text h s bytes p)) ∙ r.report'
          ∙ ap (λ (z : ScenarioLists). report (ids_of z) r.journal) same;
    }

pub told_of_text : {E : Type 0} (text : List ℕ) (s : ScenarioLists) (bytes : List ℕ) (result : Result Output E) → HasParts Run text s bytes →
    ((journal : List Entry) → IsReportOfRun s bytes journal → IfOk result (λ (o : Output). TellsRun s journal (answer_in o))) →
    (r : IsTrueReport Run text) → IfOk result (λ (o : Output). TellsRun r.scenario r.journal (answer_in o))
told_of_text text s bytes result p told r =
    subst (λ (z : ScenarioLists). IfOk result (λ (o : Output). TellsRun z r.journal (answer_in o))) (sym (scenario_in Run text (has_report text r) s bytes p))
    (told r.journal (report_is text s bytes r p))

-- ---- the answer

pub replays_right : {E : Type 0} (bytes : List ℕ) (checked : Answer) (result : Result Output E) → CheckAnswers Run bytes checked → checked.status ≡ 0 →
    ((r : IsTrueReport Run bytes) → IfOk result (λ (o : Output). TellsRun r.scenario r.journal (answer_in o))) →
    IfOk result (λ (o : Output). ReplayAnswers bytes (answer_in o))
replays_right bytes checked (Ok o) checks right told =
    let r : IsTrueReport Run bytes = checks.exactly.0 right in
    record { checked = checked; checks = checks; more = inr (record { right = right; report = r; told = told r }) }
replays_right bytes checked (Err e) checks right told = tt

pub replays_other : (bytes : List ℕ) (checked : Answer) → CheckAnswers Run bytes checked → checked.status ≢ 0 → ReplayAnswers bytes checked
replays_other bytes checked checks other = record { checked = checked; checks = checks; more = inl (other, refl) }
