-- What each entry of a journal changes in the state of the machine.
use Rattle.std.specs.Prelude.{ℕ, ◌-◌, List, [], ◌∷◌, ◌++◌, codes}
use Rattle.std.specs.Fmt.{decimal}
use Rattle.am_lemmas.specs.Numbered.{numbered}
use Rattle.am_office_entries.specs.declared.Entry.{Entry}
use Rattle.am_office_text.specs.Words.{line}
use Rattle.am_scenario_types.specs.Lists.{ScenarioLists}
use Rattle.am_lab_state.specs.Answers.{up_to}
use Rattle.am_lab_state.specs.Differences.{difference}
use Rattle.am_lab_state.specs.Texts.{state_text}

-- the line of an entry in its report, and how the state behind it differs from that in front of it
abbrev pub change : ℕ → List ℕ → List ℕ → List ℕ
change number before behind = line (codes "line") (decimal number ∷ []) ++ difference before behind

-- what the entry in this line changes
abbrev pub change_lines : ScenarioLists → List Entry → ℕ → List ℕ
change_lines s journal number = change number (state_text s (up_to (number - 1) journal)) (state_text s (up_to number journal))

-- what each entry of a journal changes, in order; the first stands in line 3 of the report
abbrev pub changes : ScenarioLists → List Entry → List ℕ
changes s journal = numbered (λ number x. change_lines s journal number) 3 journal
