-- What the fault of a line is to a reader.
use Rattle.std.specs.Prelude.{ℕ}
use Rattle.am_scenario_types.specs.declared.faults.ReadFault.{ReadFault}
use Rattle.am_scenario_types.specs.declared.faults.ReadFault.TheVariants.{Refused, NoMemory}
use Rattle.am_scenario.specs.declared.drafts.line.LineFault.{LineFault}
use Rattle.am_scenario.specs.declared.drafts.line.LineFault.TheVariants as faults

-- the fault of a line, by its number
abbrev pub at_line : ℕ → LineFault → ReadFault
at_line number (faults.What what) = Refused (record { line = number; what = what })
at_line number faults.NoMemory = NoMemory
