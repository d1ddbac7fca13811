-- The report of a journal: its lines, the runs at each endpoint, the fate of each accepted message, and the totals.
use Rattle.std.specs.Prelude.{◌≡◌, ℕ, Bool, true, false, Option, Some, None, List, [], ◌∷◌, ◌++◌, codes, map, length, filter_map, count_by}
use Rattle.std.specs.Fmt.{decimal}
use Rattle.std.specs.List.{flat_map, fold}
use Rattle.std.specs.BTreeMap.{insert_entry}
use Rattle.am_names.specs.declared.EndpointId.{EndpointId}
use Rattle.am_names.specs.declared.Serial.{Serial}
use Rattle.am_names.specs.declared.MsgKind.{MsgKind}
use Rattle.am_names.specs.declared.Message.{Message}
use Rattle.am_names.specs.Names.{same_end, serial_order}
use Rattle.am_office_entries.specs.declared.Call.TheVariants as Calls
use Rattle.am_office_entries.specs.declared.Event.{Event}
use Rattle.am_office_entries.specs.declared.Event.TheVariants as Events
use Rattle.am_office_entries.specs.declared.Outcome.{Outcome}
use Rattle.am_office_entries.specs.declared.Outcome.TheVariants as Out
use Rattle.am_office_entries.specs.declared.Entry.{Entry}
use Rattle.am_office_entries.specs.declared.endings.Fate.{Fate}
use Rattle.am_office_entries.specs.declared.endings.Fate.TheVariants as Fates
use Rattle.am_office_report.specs.declared.runs.Run.{Run}
use Rattle.am_office_report.specs.declared.runs.Run.TheVariants as Runs
use Rattle.am_office_report.specs.declared.messages.MessageFate.{MessageFate}
use Rattle.am_office_entries.specs.Entries.{accepted_of}
use Rattle.am_office_entries.specs.Fates.{fate_of_accepted}
use Rattle.am_office_text.specs.EntryLines.Lines.{line_of}
use Rattle.am_office_text.specs.Words as words
use Rattle.am_office_text.specs.Words.{Word, line, serial}

-- what a poll ran, and at which endpoint: a handler for a message, or handler 0 for a notice; a poll that ran none has no run
abbrev pub run_in : Event → Outcome → Option (EndpointId × Run)
run_in (Events.Call by end Calls.Poll) (Out.Ran (Some h) m r) = Some (end, Runs.Handled m.serial h m.words)
run_in (Events.Call by end Calls.Poll) (Out.Zero s w) = Some (end, Runs.Zero s w)
run_in event outcome = None

abbrev pub run_if : Bool → Run → Option Run
run_if true run = Some run
run_if false run = None

-- the run, if it was at endpoint `e`
abbrev pub run_at : EndpointId → Option (EndpointId × Run) → Option Run
run_at e None = None
run_at e (Some (end, run)) = run_if (same_end e end) run

-- the runs at an endpoint, in the order of the journal
abbrev pub runs_at : List Entry → EndpointId → List Run
runs_at journal e = filter_map (λ (x : Entry). run_at e (run_in x.event x.outcome)) journal

-- the line of a run
unfoldable pub run_line : Run → List ℕ
run_line (Runs.Handled s h w) =
    line (codes "run") (serial s ∷ decimal h ∷ decimal w.a ∷ decimal w.b ∷ decimal w.c ∷ decimal w.d ∷ [])
run_line (Runs.Zero s w) = line (codes "zero") (serial s ∷ words.why w ∷ [])

-- an endpoint's part: how many runs, and the runs
unfoldable pub end_part : List Entry → EndpointId → List ℕ
end_part journal e =
    line (codes "endpoint") (decimal e.0 ∷ codes "runs" ∷ decimal (length (runs_at journal e)) ∷ []) ++ flat_map run_line (runs_at journal e)

-- a message in its place among those listed; where its serial is listed already, this kind replaces the other
abbrev pub listed_with : List (Serial × MsgKind) → Option Message → List (Serial × MsgKind)
listed_with listed None = listed
listed_with listed (Some m) = insert_entry serial_order listed m.serial m.kind

-- the accepted messages, each serial once, in ascending order of source and count
abbrev pub listed : List Entry → List (Serial × MsgKind)
listed journal = fold (λ (messages : List (Serial × MsgKind)) (x : Entry). listed_with messages (accepted_of x)) [] journal

-- the accepted messages with their fates
abbrev pub told : List Entry → List MessageFate
told journal = map (λ (m : Serial × MsgKind). record { serial = m.0; kind = m.1; fate = fate_of_accepted journal m.0 }) (listed journal)

unfoldable pub fate : Fate → List Word
fate Fates.Ran = codes "ran" ∷ []
fate (Fates.Returned c) = codes "returned" ∷ words.cause c ∷ []
fate Fates.Unknown = codes "unknown" ∷ []
fate Fates.UnknownButRan = codes "unknown-but-ran" ∷ []
fate Fates.Pending = codes "pending" ∷ []

-- the line of a message
unfoldable pub fate_line : MessageFate → List ℕ
fate_line m = line (codes "fate") (serial m.serial ∷ words.kind m.kind ∷ fate m.fate)

abbrev pub has_run : Fate → Bool
has_run Fates.Ran = true
has_run fate = false

abbrev pub was_returned : Fate → Bool
was_returned (Fates.Returned cause) = true
was_returned fate = false

abbrev pub is_unknown : Fate → Bool
is_unknown Fates.Unknown = true
is_unknown fate = false

abbrev pub is_unknown_but_ran : Fate → Bool
is_unknown_but_ran Fates.UnknownButRan = true
is_unknown_but_ran fate = false

abbrev pub is_pending : Fate → Bool
is_pending Fates.Pending = true
is_pending fate = false

-- how many messages have such a fate
abbrev pub number : (Fate → Bool) → List MessageFate → ℕ
number test messages = count_by (λ (m : MessageFate). test m.fate) messages

-- the words of the totals: how many messages have each fate
abbrev pub total_words : List MessageFate → List Word
total_words messages =
    codes "ran" ∷ decimal (number has_run messages) ∷ codes "returned" ∷ decimal (number was_returned messages) ∷ codes "unknown"
    ∷ decimal (number is_unknown messages) ∷ codes "unknown-but-ran" ∷ decimal (number is_unknown_but_ran messages) ∷ codes "pending"
    ∷ decimal (number is_pending messages) ∷ []

-- the numbers of messages with each fate
unfoldable pub totals : List MessageFate → List ℕ
totals messages = line (codes "totals") (total_words messages)

-- the messages' part: how many, their fates, and the totals
unfoldable pub messages_part : List MessageFate → List ℕ
messages_part messages =
    line (codes "messages") (decimal (length messages) ∷ []) ++ flat_map fate_line messages ++ totals messages

-- how many entries there are
unfoldable pub entries_line : List Entry → List ℕ
entries_line journal = line (codes "entries") (decimal (length journal) ∷ [])

-- the journal's part: how many entries, and their lines
unfoldable pub journal_part : List Entry → List ℕ
journal_part journal = entries_line journal ++ flat_map line_of journal

-- the report of a journal with these endpoints, in their order
unfoldable pub report : List EndpointId → List Entry → List ℕ
report ends journal =
    line (codes "am2") (codes "report" ∷ codes "1" ∷ []) ++ journal_part journal ++ flat_map (λ (e : EndpointId). end_part journal e) ends
    ++ messages_part (told journal)

-- the second line of the report and its last: how many entries there are, and how many messages have each fate
unfoldable pub summary : List Entry → List ℕ
summary journal = entries_line journal ++ totals (told journal)

-- so they stand in the report
abbrev pub SummaryIsOfReport : Type 0
SummaryIsOfReport =
    (ends : List EndpointId) (journal : List Entry) → (middle : List ℕ) × (report ends journal ≡ ((line (codes "am2") (codes "report" ∷ codes "1" ∷ []) ++ entries_line journal) ++ middle) ++ totals (told journal))
