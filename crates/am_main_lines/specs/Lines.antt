-- An answer of a command, and the lines and reports that answers are made of.
use Rattle.std.specs.Prelude.{ℕ, List, ◌∷◌, [], ◌++◌, codes, map}
use Rattle.std.specs.Fmt.{decimal}
use Rattle.am_names.specs.declared.EndpointId.{EndpointId}
use Rattle.am_office_entries.specs.declared.Part.{Part}
use Rattle.am_scenario_types.specs.declared.parts.EndLine.{EndLine}
use Rattle.am_scenario_types.specs.declared.faults.ScenarioFault.{ScenarioFault}
use Rattle.am_office_text.specs.Words.{line}
use Rattle.am_main_lines.specs.declared.outputs.Output.{Output}
use Rattle.am_main_lines.specs.Words.{part_word}
use Rattle.am_session.specs.Answer.{what_word}
pub use Rattle.am_session.specs.Answer.{Answer}

-- what the code gives to print: a status and a text
abbrev pub answer_in : Output → Answer
answer_in output = record { status = output.status; text = output.text.items }

-- `refused line N` and what is wrong there
unfoldable pub refused_line : ScenarioFault → List ℕ
refused_line fault = line (codes "refused") (codes "line" ∷ decimal fault.line ∷ what_word fault.what ∷ [])

-- the answer to a text that spells no scenario: its first fault
abbrev pub refusal : ScenarioFault → Answer
refusal fault = record { status = 3; text = refused_line fault }

-- `log full` and the part of the machine whose log it is
unfoldable pub full_line : Part → List ℕ
full_line part = codes "log full " ++ part_word part ++ codes "\n"

-- the endpoints of a scenario, in ascending order
abbrev pub ids_of : List EndLine → List EndpointId
ids_of ends = map (λ (end : EndLine). end.id) ends
