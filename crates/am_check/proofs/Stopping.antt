-- What a line stops, it stops in the journal.
use Rattle.std.proofs.Common.{◌≡◌, ◌<◌, ◌+◌, ℕ, List, ◌∷◌, Some, drop, length, inr}
use Rattle.am_office_entries.specs.declared.Entry.{Entry}
use Rattle.am_scenario_types.specs.declared.parts.Form.{Form}
use Rattle.am_scenario_types.specs.Lists.{ScenarioLists}
use Rattle.am_check.specs.declared.faults.CheckWhat.TheVariants as Whats
use Rattle.am_check.specs.declared.faults.LineStop.{LineStop}
use Rattle.am_check.specs.declared.faults.LineStop.TheVariants as Stops
use Rattle.am_check.specs.Lines.{StopsLine}
use Rattle.am_lexer.specs.Text.{lines_of}
use Rattle.am_check.specs.declared.faults.CheckStop.{CheckStop}
use Rattle.am_check.specs.declared.faults.CheckStop.TheVariants as Answers
use Rattle.am_check.specs.Verdict.{Reaches, StopsAtLine, StopsJournal, StopsReport, at_line, count_of, number_of}

at : (form : Form) (s : ScenarioLists) (count : ℕ) (lines : List (List ℕ)) (number : ℕ) (why : LineStop) → StopsAtLine form s count lines number why →
    StopsJournal form s count lines (at_line number why)
at form s count lines number (Stops.What Whats.Form) p = inr p
at form s count lines number (Stops.What (Whats.NotEnabled condition)) p = p
at form s count lines number (Stops.What Whats.Outcome) p = p
at form s count lines number (Stops.What Whats.Follows) p = p
at form s count lines number (Stops.What Whats.Tail) p = p
at form s count lines number (Stops.LogFull part) p = (number, p)
at form s count lines number Stops.NoMemory p = tt

pub stops_at : (form : Form) (s : ScenarioLists) (count : ℕ) (lines : List (List ℕ)) (journal : List Entry) (line : List ℕ) (left : List (List ℕ)) (number : ℕ)
    (why : LineStop) → Reaches form s lines journal (line ∷ left) → length journal < count → number ≡ number_of (length journal + 3) →
    StopsLine form s journal line why → StopsJournal form s count lines (at_line number why)
stops_at form s count lines journal line left number why reached more is stops =
    at form s count lines number why (record { journal = journal; line = line; left = left; reached = reached; more = more; number' = is; stops = stops })

-- what stops the journal, stops the report
pub stops_report : (form : Form) (s : ScenarioLists) (bytes : List ℕ) (count : ℕ) (stop : CheckStop) → count_of (lines_of bytes) ≡ Some count →
    StopsJournal form s count (drop 2 (lines_of bytes)) stop → StopsReport form s bytes stop
stops_report form s bytes count (Answers.Fault number Whats.Form) is h = inr (record { count = count; count' = is; stops = h })
stops_report form s bytes count (Answers.Fault number (Whats.NotEnabled condition)) is h = record { count = count; count' = is; stops = h }
stops_report form s bytes count (Answers.Fault number Whats.Outcome) is h = record { count = count; count' = is; stops = h }
stops_report form s bytes count (Answers.Fault number Whats.Follows) is h = inr (record { count = count; count' = is; stops = h })
stops_report form s bytes count (Answers.Fault number Whats.Tail) is h = absurd h.stops
stops_report form s bytes count (Answers.LogFull part) is h = record { count = count; count' = is; stops = h }
stops_report form s bytes count Answers.NoMemory is h = tt
stops_report form s bytes count (Answers.Scenario fault) is h = absurd h
