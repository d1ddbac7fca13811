-- A text is read by its lines alone.
use Rattle.std.proofs.Common.{◌≡◌, ℕ, List, None, subst, sym}
use Rattle.am_lexer.specs.Text.{lines_of}
use Rattle.am_lab_schedules.specs.Trials.{ScheduleAnswers}
use Rattle.am_lab_shrink.specs.declared.reports.Making.{Making}
use Rattle.am_lab_shrink.specs.declared.reports.Making.TheVariants as Makings
use Rattle.am_lab_shrink.specs.Reports.{Answers, IsOnly, without_turns}
use Rattle.am_main_lines.specs.Lines.{Answer}
use Rattle.am_main_run.specs.Runs.{RunAnswers}
use Rattle.am_main_step.specs.Meaning.{StepAnswers}
use Rattle.am_scenario.specs.Drafts.Said.{nothing}
use Rattle.am_scenario.specs.Grammar.{read_from}
use Rattle.am_scenario_types.specs.declared.parts.Form.TheVariants as Forms

-- the same answers to a text with the same lines
pub same_answers : (making : Making) (text other : List ℕ) (answer : Answer) → lines_of text ≡ lines_of other → Answers making text answer →
    Answers making other answer
same_answers Makings.Steps text other answer same answers =
    subst (λ (lines : List (List ℕ)). StepAnswers (read_from Forms.Step 1 nothing lines) answer) same answers
same_answers Makings.Drain text other answer same answers =
    subst (λ (lines : List (List ℕ)). RunAnswers (without_turns (read_from Forms.Run 1 nothing lines)) answer) same answers
same_answers (Makings.Seed seed) text other answer same answers =
    subst (λ (lines : List (List ℕ)). ScheduleAnswers None seed (read_from Forms.Run 1 nothing lines) answer) same answers

-- and no other
pub same_only : (making : Making) (text other : List ℕ) (answer : Answer) → lines_of text ≡ lines_of other → IsOnly making text answer → IsOnly making other answer
same_only Makings.Steps text other answer same only = λ (found : Answer) found_is. only found (same_answers Makings.Steps other text found (sym same) found_is)
same_only Makings.Drain text other answer same only = λ (found : Answer) found_is. only found (same_answers Makings.Drain other text found (sym same) found_is)
same_only (Makings.Seed seed) text other answer same only = only
