-- The lines of the messages in the text of a state: in which line of the report each was accepted that the lines of an endpoint name.
use Rattle.std.specs.Prelude.{ℕ, Bool, true, false, Option, Some, None, List, [], ◌∷◌, ◌++◌, codes, map}
use Rattle.std.specs.Fmt.{decimal}
use Rattle.std.specs.List.{flat_map, list_any}
use Rattle.am_lemmas.specs.Numbered.{numbered}
use Rattle.am_names.specs.Names.{same_serial}
use Rattle.am_names.specs.declared.Message.{Message}
use Rattle.am_names.specs.declared.Serial.{Serial}
use Rattle.am_office_entries.specs.Entries.{accepted_of}
use Rattle.am_office_entries.specs.declared.Entry.{Entry}
use Rattle.am_office_text.specs.Words.{line, serial}
use Rattle.am_model.specs.declared.Awaited.{Awaited}
use Rattle.am_model.specs.declared.Flying.{Flying}
use Rattle.am_model.specs.declared.Notice.{Notice}
use Rattle.am_model.specs.declared.Queued.{Queued}
use Rattle.am_model.specs.Endpoint.{Body, State, is_on_disk}
use Rattle.am_model.specs.History.{state_of}
use Rattle.am_model_scripts.specs.Layout.{layout_of}
use Rattle.am_scenario_types.specs.Lists.{ScenarioLists}
use Rattle.am_scenario_types.specs.declared.parts.EndLine.{EndLine}
use Rattle.am_lab_state.specs.Nodes.{line_if}

-- ---- the messages that the lines of an endpoint name, each as often as a line does

abbrev pub records_named : List Awaited → List Serial
records_named records = map (λ (a : Awaited). a.serial) records

abbrev pub queue_named : List Queued → List Serial
queue_named queue = map (λ (q : Queued). q.message.serial) queue

abbrev pub flights_named : List Flying → List Serial
flights_named flights = map (λ (f : Flying). f.message.serial) flights

abbrev pub notices_named : List Notice → List Serial
notices_named notices = map (λ (n : Notice). n.message.serial) notices

abbrev pub arrivals_named : List Message → List Serial
arrivals_named received = map (λ (m : Message). m.serial) received

abbrev pub body_named : Body → List Serial
body_named b =
    records_named b.awaited ++ queue_named b.replies ++ queue_named b.requests ++ flights_named b.in_flight ++ notices_named b.notices
    ++ arrivals_named b.received

-- no line names a message of an endpoint on disk
abbrev pub named_in_memory : Bool → Body → List Serial
named_in_memory true b = []
named_in_memory false b = body_named b

abbrev pub named_by : State → List Serial
named_by s = named_in_memory (is_on_disk s.head.place) s.body

abbrev pub named_at : ScenarioLists → List Entry → EndLine → List Serial
named_at s past end = named_by (state_of (layout_of s) past end.id)

abbrev pub all_named : ScenarioLists → List Entry → List Serial
all_named s past = flat_map (named_at s past) s.ends

-- ---- their lines

abbrev pub accepted_line : ℕ → Serial → List ℕ
accepted_line number s = line (codes "message") (serial s ∷ codes "line" ∷ decimal number ∷ [])

-- whether a message is one of these
abbrev pub is_named : List Serial → Serial → Bool
is_named named s = list_any (same_serial s) named

abbrev pub accepted_by : List Serial → ℕ → Option Message → List ℕ
accepted_by named number None = []
accepted_by named number (Some m) = line_if (is_named named m.serial) (accepted_line number m.serial)

-- the message that an entry accepts, if it is one of these, with the line of the entry
abbrev pub accepted_at : List Serial → ℕ → Entry → List ℕ
accepted_at named number x = accepted_by named number (accepted_of x)

-- the messages, in the order in which they were accepted; the journal's first entry stands in line 3 of the report
abbrev pub all_messages : ScenarioLists → List Entry → List ℕ
all_messages s past = numbered (accepted_at (all_named s past)) 3 past
