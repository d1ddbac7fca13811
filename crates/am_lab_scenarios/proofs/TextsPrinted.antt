-- What is printed of a scenario is read back.
use Rattle.std.proofs.Common.{◌≡◌, ℕ, ◌+◌, List, [], ◌∷◌, ◌++◌, refl, ap, inl, inr}
use Rattle.std.specs.List.{flat_map}
use Rattle.am_main_lines.specs.Lines.{Answer, refusal}
use Rattle.am_scenario.specs.Laws.{FirstFault, Spells}
use Rattle.am_scenario_types.specs.declared.faults.ScenarioFault.{ScenarioFault}
use Rattle.am_scenario_types.specs.declared.parts.Form.{Form}
use Rattle.am_scenario_types.specs.declared.parts.Form.TheVariants.{Run, Step}
use Rattle.am_scenario_types.specs.declared.parts.StepLine.{StepLine}
use Rattle.am_scenario_types.specs.Lawful.{IsLawful, IsOfForm}
use Rattle.am_scenario_types.specs.Lists.{ScenarioLists}
use Rattle.am_lab_scenarios.proofs.Spelled.{printed_is_read, printed_run_is_read}
use Rattle.am_lab_scenarios.specs.Spelling.Texts.{as_printed, call_line, declared_lines, in_lines, lines_before, number_lines, scenario_text, setting_lines, step_line}
use Rattle.am_lab_scenarios.specs.Texts.Scenarios.{IsReadBack, ScenarioAnswers}

read_back : (form : Form) (s : ScenarioLists) → IsLawful s → IsOfForm form s → IsReadBack form s
read_back Run s lawful of_form = printed_run_is_read s lawful of_form
read_back Step s lawful of_form = printed_is_read Step s lawful of_form

-- a step's line doesn't tell its number
steps_again : (before : ℕ) (steps : List StepLine) → flat_map step_line (in_lines before steps) ≡ flat_map step_line steps
unfolding in_lines
steps_again before [] = refl
steps_again before (step ∷ steps) = ap (λ (l : List ℕ). step_line step ++ l) (steps_again (before + 1) steps)

printed_again : (s : ScenarioLists) → scenario_text (as_printed s) ≡ scenario_text s
unfolding scenario_text setting_lines number_lines declared_lines
printed_again s = ap (λ (l : List ℕ). setting_lines s ++ declared_lines s ++ flat_map call_line s.script ++ l) (steps_again (lines_before s) s.steps)

pub says_printed : (form : Form) (bytes : List ℕ) (s : ScenarioLists) (answer : Answer) → Spells form bytes s → IsLawful s → IsOfForm form s →
    answer ≡ record { status = 0; text = scenario_text s } → ScenarioAnswers form bytes answer
says_printed form bytes s answer spelled lawful of_form is =
    inl (record { scenario = s; spelled = spelled; answer' = is; back = read_back form s lawful of_form; again = printed_again s })

pub says_refused : (form : Form) (bytes : List ℕ) (fault : ScenarioFault) (answer : Answer) → FirstFault form bytes fault → answer ≡ refusal fault →
    ScenarioAnswers form bytes answer
says_refused form bytes fault answer first is = inr (record { fault = fault; first = first; answer' = is })
