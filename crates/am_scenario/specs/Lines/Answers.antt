-- What the code answers, against what the words say.
use Rattle.std.specs.Prelude.{◌≡◌, List, ◌∷◌, Result, Ok, Err}
use Rattle.std.specs.Global.{Vec}
use Rattle.am_lexer.specs.declared.what.What.{What}
use Rattle.am_scenario.specs.declared.drafts.line.LineFault.{LineFault}
use Rattle.am_scenario.specs.declared.drafts.line.LineFault.TheVariants as faults

-- what the code made of some words, seen by view, unless memory ran out
abbrev pub Yields : {X Y : Type 0} → (X → Y) → Result X LineFault → Result Y What → Type 0
Yields view (Ok x) read = read ≡ Ok (view x)
Yields view (Err (faults.What what)) read = read ≡ Err what
Yields view (Err faults.NoMemory) read = Unit {0}

-- the same of a list, which the code has behind a first one
abbrev pub YieldsBehind : {X : Type 0} → X → Result (Vec X) LineFault → Result (List X) What → Type 0
YieldsBehind first (Ok v) read = (others : List _) × (read ≡ Ok others) × (v.items ≡ first ∷ others)
YieldsBehind first (Err (faults.What what)) read = read ≡ Err what
YieldsBehind first (Err faults.NoMemory) read = Unit {0}
