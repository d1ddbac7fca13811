-- The tables from which a report is made.
use Rattle.std.specs.Prelude.{◌≡◌, ◌^◌, ◌<◌, ◌≤◌, ◌+◌, ◌==◌, ℕ, Bool, map, true, false, if◌then◌else◌, Option, Some, None, option_to_list, List, [], ◌∷◌, ◌++◌}
use Rattle.std.specs.Prelude.{length, slice_set, slice_get, slice_index_or, filter_map}
use Rattle.std.specs.List.{fold}
use Rattle.std.specs.Option.{option_or}
use Rattle.std.specs.BTreeMap.{insert_entry}
use Rattle.am_names.specs.declared.EndpointId.{EndpointId}
use Rattle.am_names.specs.declared.Serial.{Serial}
use Rattle.am_names.specs.declared.MsgKind.{MsgKind}
use Rattle.am_names.specs.declared.Message.{Message}
use Rattle.am_names.specs.Names.{same_serial, serial_order}
use Rattle.am_office_entries.specs.declared.Call.TheVariants as Calls
use Rattle.am_office_entries.specs.declared.Event.{Event}
use Rattle.am_office_entries.specs.declared.Event.TheVariants as Events
use Rattle.am_office_entries.specs.declared.Received.{Received}
use Rattle.am_office_entries.specs.declared.Received.TheVariants as Got
use Rattle.am_office_entries.specs.declared.Outcome.{Outcome}
use Rattle.am_office_entries.specs.declared.Outcome.TheVariants as Out
use Rattle.am_office_entries.specs.declared.Entry.{Entry}
use Rattle.am_office_report.specs.declared.runs.Run.{Run}
use Rattle.am_office_report.specs.declared.known.Known.{Known}
use Rattle.am_office_report.specs.declared.known.News.{News}
use Rattle.am_office_report.specs.declared.known.News.TheVariants as Latest
use Rattle.am_office_report.specs.declared.messages.MessageFate.{MessageFate}
use Rattle.am_office_report.specs.declared.sources.MessageState.{MessageState}
use Rattle.am_office_report.specs.declared.heard.Heard.{Heard}
use Rattle.am_office_entries.specs.Fates.{fate_by, causes_of, is_unknown, is_run}
use Rattle.am_office_report.specs.Report.{listed, runs_at}
use Rattle.am_office_report.specs.Report as texts
use Rattle.am_office_report.specs.declared.totals.Totals.{Totals}
use Rattle.am_office_entries.specs.declared.endings.Fate.{Fate}

-- the lists of runs after one more run
abbrev pub with_run : List (List Run) → Option (EndpointId × Run) → List (List Run)
with_run lists None = lists
with_run lists (Some run) = slice_set lists run.0.0 (slice_index_or lists run.0.0 [] ++ run.1 ∷ [])

-- one list for each endpoint, of its runs in the journal
pub record AreRuns (lists : List (List Run)) (journal : List Entry) : Type 0 where
  pub size : length lists ≡ 256
  pub each : (e : EndpointId) → e.0 < 256 → slice_index_or lists e.0 [] ≡ runs_at journal e

-- what an entry says of a message's fate, and of which message
abbrev pub news_by : Received → Option (Serial × News)
news_by (Got.Returned s c) = Some (s, Latest.Returned c)
news_by result = None

abbrev pub news_in : Event → Outcome → Option (Serial × News)
news_in (Events.Call by e Calls.Poll) (Out.Ran h m r) = Some (m.serial, Latest.Ran)
news_in (Events.Carry e) (Out.Returned m c) = Some (m.serial, Latest.Returned c)
news_in (Events.Expire n p c) (Out.Unknown s) = Some (s, Latest.Unknown)
news_in (Events.Receive n p k) (Out.Received channel seq attempt result) = news_by result
news_in event outcome = None

-- what is known of a message after the news; the first cause stays
abbrev pub known_with : Known → News → Known
known_with k Latest.Ran = record k { ran = true }
known_with k Latest.Unknown = record k { unknown = true }
known_with k (Latest.Returned c) = record k { cause = option_or k.cause (Some c) }

-- what is known of a message of which no entry says anything
abbrev pub nothing_known : Known
nothing_known = record { cause = None; unknown = false; ran = false }

-- what a journal says of a message
abbrev pub known_of : List Entry → Serial → Known
known_of journal s = record { cause = slice_get (causes_of journal s) 0; unknown = is_unknown journal s; ran = is_run journal s }

-- what is known of a message after news of some message
abbrev pub known_after : Serial → Known → Option (Serial × News) → Known
known_after s k None = k
known_after s k (Some (about, news)) = if same_serial s about then known_with k news else k

-- a message of which nothing is known but its kind
abbrev pub accepted_state : MsgKind → MessageState
accepted_state kind = record { kind = kind; known = nothing_known }

-- the place of a count among a source's messages: those in front have lower counts, those behind it higher ones
pub record IsPlace (rows : List (ℕ × MessageState)) (count place : ℕ) : Type 0 where
  pub within : place ≤ length rows
  pub below : (k : ℕ) (d : ℕ × MessageState) → k < place → (slice_index_or rows k d).0 < count
  pub there : (d : ℕ × MessageState) → place < length rows → count ≤ (slice_index_or rows place d).0
  pub above : (k : ℕ) (d : ℕ × MessageState) → place < k → k < length rows → count < (slice_index_or rows k d).0

-- the row at a place has this count
pub record IsThere (rows : List (ℕ × MessageState)) (count place : ℕ) : Type 0 where
  pub within : place < length rows
  pub same : (d : ℕ × MessageState) → (slice_index_or rows place d).0 ≡ count

-- no row with this count is at a place
pub record IsMissing (rows : List (ℕ × MessageState)) (count place : ℕ) : Type 0 where
  pub other : (d : ℕ × MessageState) → place < length rows → (slice_index_or rows place d).0 ≡ count → ⊥

abbrev pub heard_if : Bool → News → MessageState → MessageState
heard_if b news state = record { kind = state.kind; known = if b then known_with state.known news else state.known }

-- a source's message after news of the one with this count
abbrev pub heard : ℕ → News → ℕ × MessageState → ℕ × MessageState
heard count news row = (row.0, heard_if (row.0 == count) news row.1)

-- a source's message under its serial
abbrev pub source_entry : ℕ → ℕ × MessageState → Serial × MessageState
source_entry source row = (record { source = record { 0 = source }; count = row.0 }, row.1)

-- the messages of the sources from this one on, under their serials
abbrev pub entries_from : ℕ → List (List (ℕ × MessageState)) → List (Serial × MessageState)
entries_from source [] = []
entries_from source (rows ∷ sources) = map (source_entry source) rows ++ entries_from (source + 1) sources

-- the messages of a table in order
abbrev pub messages_in : List (List (ℕ × MessageState)) → List (Serial × MessageState)
messages_in sources = entries_from 0 sources

-- a message after news of some message
abbrev pub entry_after : Serial → News → Serial × MessageState → Serial × MessageState
entry_after about news entry = (entry.0, heard_if (same_serial entry.0 about) news entry.1)

-- a message's serial, if there is one
abbrev pub serial_of : Option Message → Option Serial
serial_of None = None
serial_of (Some m) = Some m.serial

-- a message's serial and kind, if there is one
abbrev pub kind_of : Option Message → Option (Serial × MsgKind)
kind_of None = None
kind_of (Some m) = Some (m.serial, m.kind)

-- the messages with one more, if it was accepted
abbrev pub accepted_with : List (Serial × MessageState) → Option (Serial × MsgKind) → List (Serial × MessageState)
accepted_with entries None = entries
accepted_with entries (Some (serial, kind)) = insert_entry serial_order entries serial (accepted_state kind)

-- the messages after news of some message
abbrev pub heard_with : List (Serial × MessageState) → Option (Serial × News) → List (Serial × MessageState)
heard_with entries None = entries
heard_with entries (Some (about, news)) = map (entry_after about news) entries

-- the messages after these news, one after the other
abbrev pub heard_all : List (Serial × MessageState) → List (Serial × News) → List (Serial × MessageState)
heard_all entries news = fold (λ (before : List (Serial × MessageState)) (one : Serial × News). map (entry_after one.0 one.1) before) entries news

-- what an entry says of a message's fate
abbrev pub news_of : Entry → Option (Serial × News)
news_of x = news_in x.event x.outcome

-- a listed message with what a journal says of it
abbrev pub state_after : List Entry → Serial × MsgKind → Serial × MessageState
state_after journal m = (m.0, record { kind = m.1; known = known_of journal m.0 })

-- of these entries the accepted messages, and what they say of the messages' fates, in order
pub record HasHeard (heard : Heard) (past : List Entry) : Type 0 where
  pub accepted : messages_in heard.messages ≡ map (state_after []) (listed past)
  pub news : heard.news.items ≡ filter_map news_of past

-- a message with its fate
abbrev pub fate_of_entry : Serial × MessageState → MessageFate
fate_of_entry entry = record {
  serial = entry.0;
  kind = entry.1.kind;
  fate = fate_by (option_to_list entry.1.known.cause) entry.1.known.unknown entry.1.known.ran;
}

abbrev pub one_more : Bool → ℕ → ℕ
one_more true n = n + 1
one_more false n = n

-- the numbers with one more message, of this fate
abbrev pub with_fate : Totals → Fate → Totals
with_fate t fate = record {
  ran = one_more (texts.has_run fate) t.ran;
  returned = one_more (texts.was_returned fate) t.returned;
  unknown = one_more (texts.is_unknown fate) t.unknown;
  unknown_but_ran = one_more (texts.is_unknown_but_ran fate) t.unknown_but_ran;
  pending = one_more (texts.is_pending fate) t.pending;
}

abbrev pub no_totals : Totals
no_totals = record { ran = 0; returned = 0; unknown = 0; unknown_but_ran = 0; pending = 0 }

-- how many messages have each fate
abbrev pub totals_in : List MessageFate → Totals
totals_in messages = record {
  ran = texts.number texts.has_run messages;
  returned = texts.number texts.was_returned messages;
  unknown = texts.number texts.is_unknown messages;
  unknown_but_ran = texts.number texts.is_unknown_but_ran messages;
  pending = texts.number texts.is_pending messages;
}

-- each number can be raised by one
pub record HasRoom (t : Totals) : Type 0 where
  pub ran : t.ran + 1 < 2 ^ 64
  pub returned : t.returned + 1 < 2 ^ 64
  pub unknown : t.unknown + 1 < 2 ^ 64
  pub unknown_but_ran : t.unknown_but_ran + 1 < 2 ^ 64
  pub pending : t.pending + 1 < 2 ^ 64
