-- What a line says, its words read from the left, or its first fault.
use Rattle.std.specs.Prelude.{ℕ, List, Result, Ok}
use Rattle.am_lexer.specs.declared.what.What.{What}
use Rattle.am_scenario_types.specs.declared.parts.Form.{Form}
use Rattle.am_scenario.specs.declared.drafts.line.Line.{Line}
use Rattle.am_scenario.specs.declared.drafts.line.Line.TheVariants as line
use Rattle.am_scenario.specs.Drafts.Said.{Said}
use Rattle.am_scenario.specs.declared.lines.head.Head.{Head}
use Rattle.am_scenario.specs.declared.lines.head.Head.TheVariants as head
use Rattle.am_scenario.specs.Lines.Settings.{version_line, setting_line}
use Rattle.am_scenario.specs.Lines.Declarations.{endpoint_line, bundle_line, thread_line, plan_line, swap_fault_line}
use Rattle.am_scenario.specs.Lines.Script.{script_line}
use Rattle.am_scenario.specs.Lines.Steps.{outside_line, interface_line, driver_line}
use Rattle.am_lexer.specs.Fields.{◌>>=◌}

unfoldable pub words_say : Form → Said → Head → List (List ℕ) → Result Line What
words_say form said head.Version words = version_line said words
words_say form said (head.Setting name) words = do
  setting ← setting_line form said.settings name words
  Ok (line.Setting setting)
words_say form said head.Endpoint words = endpoint_line said words
words_say form said head.Bundle words = bundle_line said words
words_say form said head.Thread words = thread_line said words
words_say form said head.Plan words = plan_line said words
words_say form said head.SwapFault words = swap_fault_line said words
words_say form said head.Outside words = outside_line said words
words_say form said (head.OfThread number) words = script_line said number words
words_say form said (head.OfInterface number) words = interface_line said number words
words_say form said (head.OfDriver number) words = driver_line said number words
