-- What the reader's code answers, against what the text says.
use Rattle.std.specs.Prelude.{◌≡◌, ℕ, Result, Ok, Err}
use Rattle.am_lexer.specs.declared.what.What.{What}
use Rattle.am_session.specs.declared.script.LineFault.{LineFault}
use Rattle.am_session.specs.declared.script.LineFault.TheVariants as faults
use Rattle.am_session.specs.declared.script.SessionReadFault.{SessionReadFault}
use Rattle.am_session.specs.declared.script.SessionReadFault.TheVariants.{Refused, NoMemory}
use Rattle.am_session.specs.declared.script.SessionTextFault.{SessionTextFault}
use Rattle.am_session.specs.Scripts.{Script, Said}

-- what the code made of a line, unless memory ran out
abbrev pub Changes : Result (Unit {0}) LineFault → Said → Result Said What → Type 0
Changes (Ok x) new read = read ≡ Ok new
Changes (Err (faults.What what)) new read = read ≡ Err what
Changes (Err faults.NoMemory) new read = Unit {0}

-- what the code made of all lines
abbrev pub Finishes : Result Script What → Result Script What → Type 0
Finishes result read = read ≡ result

-- what the reader answers, unless memory runs out
abbrev pub Answers : Result Script SessionReadFault → Result Script SessionTextFault → Type 0
Answers (Ok script) read = read ≡ Ok script
Answers (Err (Refused fault)) read = read ≡ Err fault
Answers (Err NoMemory) read = Unit {0}

-- the fault of a line, by its number
abbrev pub at_line : ℕ → LineFault → SessionReadFault
at_line number (faults.What what) = Refused (record { line = number; what = what })
at_line number faults.NoMemory = NoMemory
