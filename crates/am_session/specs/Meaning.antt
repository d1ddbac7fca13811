-- What the answer to a text of a session says.
use Rattle.std.specs.Prelude.{◌≡◌, ◌⊎◌, ◌↔◌, ℕ, List, length, take, slice_get, Some, Result, Ok, Err}
use Rattle.am_restart.specs.declared.events.SessionEntry.{SessionEntry}
use Rattle.am_restart.specs.History.{IsSession, IsOfEvents, state_of}
use Rattle.am_restart.specs.Moves.{failing}
use Rattle.am_restart.specs.Laws.Laws.{SessionLaws}
use Rattle.am_session.specs.declared.output.SessionOutput.{SessionOutput}
use Rattle.am_session.specs.declared.script.SessionStep.{SessionStep}
use Rattle.am_session.specs.declared.script.SessionTextFault.{SessionTextFault}
use Rattle.am_session.specs.declared.stops.Stop.{Stop}
use Rattle.am_session.specs.Answer.{Answer, answer_of, not_enabled_line, refused_line}
use Rattle.am_session.specs.Report.{report}
use Rattle.am_session.specs.Scripts.{Script, events_of}

-- THE HEADLINE: the text is the report of the one history of the lines, which obeys the laws of a session.
pub record PrintsSession (script : Script) (text : List ℕ) : Type 0 where
  pub entries : List SessionEntry
  pub history : IsSession script.tries entries
  pub follows : IsOfEvents (events_of script.steps) entries
  pub only : (other : List SessionEntry) → IsSession script.tries other → IsOfEvents (events_of script.steps) other → other ≡ entries
  pub laws : SessionLaws script.tries entries
  pub text' : text ≡ report entries

-- the events before one have a history, and there this one can't happen: its line is told, and its first condition that fails
pub record StopsSession (script : Script) (text : List ℕ) : Type 0 where
  pub entries : List SessionEntry
  pub history : IsSession script.tries entries
  pub follows : IsOfEvents (events_of (take (length entries) script.steps)) entries
  pub step : SessionStep
  pub at : slice_get script.steps (length entries) ≡ Some step
  pub stop : Stop
  pub fails : failing (state_of script.tries entries) step.event ≡ Some stop.condition
  pub line' : stop.line ≡ step.line
  pub text' : text ≡ not_enabled_line stop

-- what an answer says of what the text spells, or of its first fault
abbrev pub SessionMeans : Result Script SessionTextFault → Answer → Type 0
SessionMeans (Ok script) answer = ((answer.status ≡ 0) × PrintsSession script answer.text) ⊎ ((answer.status ≡ 3) × StopsSession script answer.text)
SessionMeans (Err fault) answer = answer ≡ record { status = 3; text = refused_line fault }

-- there is one answer, which the definition of answering computes
abbrev pub SessionHasOneAnswer : Type 0
SessionHasOneAnswer = (read : Result Script SessionTextFault) (answer : Answer) → SessionMeans read answer ↔ (answer ≡ answer_of read)

-- what the code gives to print
abbrev pub answer_in : SessionOutput → Answer
answer_in output = record { status = output.status; text = output.text.items }
