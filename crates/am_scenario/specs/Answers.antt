-- What the code answers, against what the text says.
use Rattle.std.specs.Prelude.{◌≡◌, Result, Ok, Err}
use Rattle.am_lexer.specs.declared.what.What.{What}
use Rattle.am_scenario_types.specs.declared.faults.ScenarioFault.{ScenarioFault}
use Rattle.am_scenario_types.specs.declared.faults.ReadFault.{ReadFault}
use Rattle.am_scenario_types.specs.declared.faults.ReadFault.TheVariants.{Refused, NoMemory}
use Rattle.am_scenario_types.specs.Lists.{ScenarioLists}
use Rattle.am_scenario.specs.declared.drafts.line.LineFault.{LineFault}
use Rattle.am_scenario.specs.declared.drafts.line.LineFault.TheVariants as faults
use Rattle.am_scenario.specs.Drafts.Said.{Said}

-- what the code made of a line, unless memory ran out
abbrev pub Changes : Result (Unit {0}) LineFault → Said → Result Said What → Type 0
Changes (Ok x) new read = read ≡ Ok new
Changes (Err (faults.What what)) new read = read ≡ Err what
Changes (Err faults.NoMemory) new read = Unit {0}

-- what the code made of all lines, unless memory ran out
abbrev pub Finishes : Result ScenarioLists LineFault → Result ScenarioLists What → Type 0
Finishes (Ok scenario) read = read ≡ Ok scenario
Finishes (Err (faults.What what)) read = read ≡ Err what
Finishes (Err faults.NoMemory) read = Unit {0}

-- what the reader answers, unless memory runs out
abbrev pub Answers : Result ScenarioLists ReadFault → Result ScenarioLists ScenarioFault → Type 0
Answers (Ok scenario) read = read ≡ Ok scenario
Answers (Err (Refused fault)) read = read ≡ Err fault
Answers (Err NoMemory) read = Unit {0}
