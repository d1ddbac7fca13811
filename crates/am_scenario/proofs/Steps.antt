-- One line more.
use Rattle.std.proofs.Common.{◌≡◌, ℕ, true, List, [], ◌∷◌, Result, Ok, Err, refl, sym, ◌∙◌}
use Rattle.std.specs.List.{list_all}
use Rattle.std.proofs.lemmas.Bool.{and_parts}
use Rattle.am_lexer.specs.Lines.{line_after}
use Rattle.am_lexer.specs.Text.{is_text_line}
use Rattle.am_scenario_types.specs.declared.parts.Form.{Form}
use Rattle.am_scenario_types.specs.declared.faults.ScenarioFault.{ScenarioFault}
use Rattle.am_scenario_types.specs.Lists.{ScenarioLists}
use Rattle.am_scenario.specs.declared.drafts.line.LineFault.{LineFault}
use Rattle.am_scenario.specs.declared.drafts.line.LineFault.TheVariants as faults
use Rattle.am_scenario.specs.Drafts.Said.{Said}
use Rattle.am_scenario.specs.Order.{after_line}
use Rattle.am_scenario.specs.Grammar.{whole, read_from}
use Rattle.am_scenario.specs.Answers.{Changes, Finishes, Answers}
use Rattle.am_scenario.specs.Drafts.Faults.{at_line}

-- a line that was taken
pub line_taken : (form : Form) (number : ℕ) (said next : Said) (line : List ℕ) (lines : List (List ℕ)) (all : Result ScenarioLists ScenarioFault)
    → after_line form number said line ≡ Ok next → read_from form number said (line ∷ lines) ≡ all → read_from form (line_after number) next lines ≡ all
unfolding read_from
line_taken form number said next line lines all e so_far = rw e at so_far

-- a line that was not
pub line_refused : (form : Form) (number : ℕ) (said next : Said) (line : List ℕ) (lines : List (List ℕ)) (all : Result ScenarioLists ScenarioFault)
    (fault : LineFault)
    → Changes (Err fault) next (after_line form number said line) → read_from form number said (line ∷ lines) ≡ all → Answers (Err (at_line number fault)) all
unfolding read_from
line_refused form number said next line lines all (faults.What what) e so_far = sym so_far ∙ rw e refl
line_refused form number said next line lines all faults.NoMemory e so_far = tt

-- no line is left
pub all_taken : (form : Form) (number : ℕ) (said : Said) (scenario : ScenarioLists) (all : Result ScenarioLists ScenarioFault)
    → Finishes (Ok scenario) (whole said) → read_from form number said [] ≡ all → Answers (Ok scenario) all
unfolding read_from
all_taken form number said scenario all e so_far = sym so_far ∙ rw e refl

pub all_refused : (form : Form) (number : ℕ) (said : Said) (fault : LineFault) (all : Result ScenarioLists ScenarioFault)
    → Finishes (Err fault) (whole said) → read_from form number said [] ≡ all → Answers (Err (at_line number fault)) all
unfolding read_from
all_refused form number said (faults.What what) all e so_far = sym so_far ∙ rw e refl
all_refused form number said faults.NoMemory all e so_far = tt

-- where all lines are printable, the first is, and so are those behind it
pub printable_parts : (line : List ℕ) (lines : List (List ℕ)) → list_all is_text_line (line ∷ lines) ≡ true →
    (is_text_line line ≡ true) × (list_all is_text_line lines ≡ true)
printable_parts line lines e = and_parts (is_text_line line) (list_all is_text_line lines) e
