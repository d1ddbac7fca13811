-- What the text of the changes is to whoever reads it.
use Rattle.std.specs.Prelude.{◌≡◌, ℕ, ◌-◌, ◌≤◌, true, List, [], ◌∷◌, ◌++◌, codes, length, Some}
use Rattle.std.specs.Fmt.{decimal}
use Rattle.am_office_entries.specs.declared.Entry.{Entry}
use Rattle.am_office_text.specs.Words.{line}
use Rattle.am_scenario_types.specs.Lists.{ScenarioLists}
use Rattle.am_lab_state.specs.Answers.{asked_text, is_line, up_to}
use Rattle.am_lab_state.specs.Changes.{changes}
use Rattle.am_lab_state.specs.Differences.{difference}
use Rattle.am_lab_state.specs.Texts.{state_text}
use Rattle.am_lab_state.specs.declared.asked.StateLines.TheVariants.{Between}

-- The text of the entries up to a line is that of the entries in front of it, the line's number, and what is told of it: of the first entry, which has no
-- line in front of it, how the state behind it differs from that of a machine that has made none; of a later one, what `state` tells of the line in front
-- of it and of its own.
pub record ChangeIsTold (s : ScenarioLists) (journal : List Entry) (number : ℕ) : Type 0 where
  pub told : List ℕ
  pub grows : changes s (up_to number journal) ≡ changes s (up_to (number - 1) journal) ++ line (codes "line") (decimal number ∷ []) ++ told
  pub first : number ≡ 3 → told ≡ difference (state_text s []) (state_text s (up_to 3 journal))
  pub later : 4 ≤ number → asked_text s journal (Between (number - 1) number) ≡ Some told

-- of no entry nothing is told, and each line of a journal is told so
pub record ChangesAreTold : Type 0 where
  pub none : (s : ScenarioLists) → changes s [] ≡ []
  pub each : (s : ScenarioLists) (journal : List Entry) (number : ℕ) → is_line (length journal) number ≡ true → ChangeIsTold s journal number
