-- What a text of a session is answered: a status, and what is printed.
use Rattle.std.specs.Prelude.{ℕ, List, ◌++◌, codes, Option, Some, None, Result, Ok, Err}
use Rattle.std.specs.Fmt.{decimal}
use Rattle.am_lexer.specs.declared.what.What.{What}
use Rattle.am_lexer.specs.declared.what.What.TheVariants as Whats
use Rattle.am_session.specs.declared.script.SessionTextFault.{SessionTextFault}
use Rattle.am_session.specs.declared.stops.Stop.{Stop}
use Rattle.am_session.specs.Grammar.{grammar}
use Rattle.am_session.specs.Lines.{condition_word}
use Rattle.am_session.specs.Plays.{Played, played}
use Rattle.am_session.specs.Report.{report}
use Rattle.am_session.specs.Scripts.{Script}

pub record Answer : Type 0 where
  pub status : ℕ
  pub text : List ℕ

unfoldable pub what_word : What → List ℕ
what_word Whats.UnknownWord = codes "unknown-word"
what_word Whats.BadNumber = codes "bad-number"
what_word Whats.OutOfRange = codes "out-of-range"
what_word Whats.Twice = codes "twice"
what_word Whats.Missing = codes "missing"
what_word Whats.Undeclared = codes "undeclared"
what_word Whats.NotText = codes "not-text"
what_word Whats.TooMany = codes "too-many"
what_word Whats.OutOfPlace = codes "out-of-place"

unfoldable pub refused_line : SessionTextFault → List ℕ
refused_line fault = codes "refused line " ++ decimal fault.line ++ codes " " ++ what_word fault.what ++ codes "\n"

unfoldable pub not_enabled_line : Stop → List ℕ
not_enabled_line stop = codes "refused line " ++ decimal stop.line ++ codes " not-enabled " ++ condition_word stop.condition ++ codes "\n"

abbrev pub answer_of_play : List ℕ → Option Stop → Answer
answer_of_play text None = record { status = 0; text = text }
answer_of_play text (Some stop) = record { status = 3; text = not_enabled_line stop }

-- the report of what the events make, or the first that can't happen
abbrev pub answer_of_played : Played → Answer
answer_of_played p = answer_of_play (report p.entries) p.stopped

-- the answer to what a text spells, or to its first fault
abbrev pub answer_of : Result Script SessionTextFault → Answer
answer_of (Ok script) = answer_of_played (played script)
answer_of (Err fault) = record { status = 3; text = refused_line fault }

-- THE ANSWER TO A TEXT
abbrev pub session_answer : List ℕ → Answer
session_answer bytes = answer_of (grammar bytes)
