-- What the events of a script make.
use Rattle.std.specs.Prelude.{◌≡◌, ℕ, Option, Some, None, List, [], ◌∷◌, ◌++◌}
use Rattle.am_restart.specs.declared.events.SessionCondition.{SessionCondition}
use Rattle.am_restart.specs.declared.events.SessionEntry.{SessionEntry}
use Rattle.am_restart.specs.declared.events.SessionFault.{SessionFault}
use Rattle.am_restart.specs.declared.events.SessionFault.TheVariants as Faults
use Rattle.am_restart.specs.History.{after, entry_of}
use Rattle.am_restart.specs.Moves.{failing}
use Rattle.am_restart.specs.State.{SessionState, opening}
use Rattle.am_session.specs.declared.script.SessionStep.{SessionStep}
use Rattle.am_session.specs.declared.stops.Stop.{Stop}
use Rattle.am_session.specs.Scripts.{Script}

-- the entries of the events that could happen, and what stopped the next one, if anything did
pub record Played : Type 0 where
  pub entries : List SessionEntry
  pub stopped : Option Stop

abbrev pub played_by : Option SessionCondition → ℕ → List SessionEntry → Played → Played
played_by None line past rest = rest
played_by (Some condition) line past rest = record { entries = past; stopped = Some (record { line = line; condition = condition }) }

-- what the events make of a session with these entries
abbrev pub played_from : SessionState → List SessionEntry → List SessionStep → Played
played_from s past [] = record { entries = past; stopped = None }
played_from s past (step ∷ steps) =
    played_by (failing s step.event) step.line past (played_from (after s step.event) (past ++ entry_of s step.event ∷ []) steps)

-- what the events of a script make
abbrev pub played : Script → Played
played script = played_from (opening script.tries) [] script.steps

-- these are the entries so far, where the event of this line can't happen
abbrev pub IsStoppedBy : SessionFault → ℕ → List SessionEntry → Played → Type 0
IsStoppedBy (Faults.NotEnabled condition) line entries made = made ≡ record { entries = entries; stopped = Some (record { line = line; condition = condition }) }
IsStoppedBy Faults.NoMemory line entries made = ⊥
