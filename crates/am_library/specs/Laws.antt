-- What a library may rely on, in its words.
use Rattle.std.specs.Prelude.{◌≡◌, ℕ, ◌%◌, ◌^◌, ◌≤◌, ◌⊎◌, Bool, true, false, ◌||◌, not, Some, None, List, [], ◌∷◌, ◌++◌, count_by, filter, filter_map, length}
use Rattle.std.specs.Prelude.{sum_by, ◌&&◌}
use Rattle.std.specs.List.{Contains, list_all, list_any}
use Rattle.am_names.specs.Rules.{is_transient}
use Rattle.am_names.specs.declared.Cause.{Cause}
use Rattle.am_names.specs.declared.EndpointId.{EndpointId}
use Rattle.am_names.specs.declared.Message.{Message}
use Rattle.am_names.specs.declared.Serial.{Serial}
use Rattle.am_names.specs.declared.Words.{Words}
use Rattle.am_names.specs.Names.{has_serial, same_end}
use Rattle.am_office_entries.specs.declared.Call.{Call}
use Rattle.am_office_entries.specs.declared.Call.TheVariants as Calls
use Rattle.am_office_entries.specs.declared.HandlerKind.TheVariants.{Add, Echo}
use Rattle.am_office_entries.specs.declared.Entry.{Entry}
use Rattle.am_office_entries.specs.declared.endings.Fate.TheVariants as Fates
use Rattle.am_office_entries.specs.Entries.{accepted_of}
use Rattle.am_office_entries.specs.Fates.{fate}
use Rattle.am_model.specs.History.{state_of}
use Rattle.am_model.specs.PostOffice.{WasAccepted, is_about}
use Rattle.am_model_scripts.specs.Layout.{layout_of}
use Rattle.am_scenario_types.specs.declared.parts.ScriptCall.{ScriptCall}
use Rattle.am_scenario_types.specs.Lists.{ScenarioLists}
use Rattle.am_laws_runs.specs.Turns.Endings.{WithholdsNothing}
use Rattle.am_library_drafts.specs.Drafts.{with_calls}
use Rattle.am_library_views.specs.Ends.{AddUp, is_lost, words_asked, words_fated, words_refused}
use Rattle.am_library.specs.Runs.{IsRun}
use Rattle.am_library_views.specs.Views.{first_word, reply_to, requests_run, requests_sent, runs_at, sum_at}

-- one reply to a request was accepted: it goes back to the request's source, under the tag that the request gives
pub record HasOneReply (journal : List Entry) (m : Message) : Type 0 where
  pub reply : Message
  pub only : filter (is_about m.serial) (filter_map accepted_of journal) ≡ reply ∷ []
  pub dest' : reply.dest ≡ m.serial.source
  pub tag' : reply.tag ≡ m.reply_tag

-- whether a call leaves the handlers of its endpoint such that each adds, and makes no request there
abbrev pub is_adding : Call → Bool
is_adding (Calls.SetHandler index (Add to)) = true
is_adding (Calls.SetHandler index kind) = false
is_adding (Calls.Request index handler words) = false
is_adding call = true

abbrev pub leaves_adding : EndpointId → ScriptCall → Bool
leaves_adding e made = not (same_end e made.endpoint) || is_adding made.call

-- an endpoint that adds: each handler that the script sets there is `add`, and it makes no requests
abbrev pub Adds : ScenarioLists → EndpointId → Type 0
Adds s e = list_all (leaves_adding e) s.script ≡ true

-- whether a call leaves the handlers of its endpoint such that each echoes
abbrev pub is_echoing : Call → Bool
is_echoing (Calls.SetHandler index (Echo to)) = true
is_echoing (Calls.SetHandler index kind) = false
is_echoing call = true

abbrev pub leaves_echoing : EndpointId → ScriptCall → Bool
leaves_echoing e made = not (same_end e made.endpoint) || is_echoing made.call

-- an endpoint that echoes: each handler that the script sets there is `echo`
abbrev pub Echoes : ScenarioLists → EndpointId → Type 0
Echoes s e = list_all (leaves_echoing e) s.script ≡ true

-- whether a call, if it maps an index, maps it to the endpoint
abbrev pub maps_to : EndpointId → Call → Bool
maps_to e (Calls.Map index name tag credits) = same_end e name
maps_to e call = true

abbrev pub leads : EndpointId → ScriptCall → Bool
leads e made = maps_to e made.call

-- one endpoint to which all lead: each map of the script names it
abbrev pub LeadsTo : ScenarioLists → EndpointId → Type 0
LeadsTo s e = list_all (leads e) s.script ≡ true

-- the sum of an endpoint is that of the first words of the requests that ran there
abbrev pub IsSumOfRuns : List Entry → EndpointId → Type 0
IsSumOfRuns journal e = sum_at journal e ≡ sum_by first_word (runs_at journal e) % 2 ^ 64

-- ---- the laws, each of every run of every lawful scenario, by whatever runner

-- a request ran at most once
abbrev pub RunsAtMostOnce : Type 0
RunsAtMostOnce = (s : ScenarioLists) (journal : List Entry) → IsRun s journal → (serial : Serial) → count_by (has_serial serial) (requests_run journal) ≤ 1

-- a message ran, or it came back for a cause that isn't transient
abbrev pub RanOrCameBack : List Entry → Serial → Type 0
RanOrCameBack journal serial =
    (fate journal serial ≡ Some Fates.Ran) ⊎ ((cause : Cause) × (fate journal serial ≡ Some (Fates.Returned cause)) × (is_transient cause ≡ false))

-- where the plan withholds nothing, each message that was accepted did one of both
abbrev pub NothingIsLost : Type 0
NothingIsLost = (s : ScenarioLists) (journal : List Entry) → IsRun s journal → WithholdsNothing s → (m : Message) → WasAccepted journal m →
    RanOrCameBack journal m.serial

-- what came back never ran
abbrev pub WhatCameBackNeverRan : Type 0
WhatCameBackNeverRan =
    (s : ScenarioLists) (journal : List Entry) (serial : Serial) (cause : Cause) → IsRun s journal → fate journal serial ≡ Some (Fates.Returned cause) →
    count_by (has_serial serial) (requests_run journal) ≡ 0

-- an unknown message didn't run, and one that is unknown but ran is told apart from it
abbrev pub TheUnknownDidNotRun : Type 0
TheUnknownDidNotRun =
    (s : ScenarioLists) (journal : List Entry) (serial : Serial) → IsRun s journal → fate journal serial ≡ Some Fates.Unknown →
    count_by (has_serial serial) (requests_run journal) ≡ 0

-- a request that ran has one reply, under its tag
abbrev pub EachRunHasOneReply : Type 0
EachRunHasOneReply = (s : ScenarioLists) (journal : List Entry) (m : Message) → IsRun s journal → Contains (requests_run journal) m → HasOneReply journal m

-- the reply to a request that ran at an endpoint that echoes has its words
abbrev pub EchoesAreWords : Type 0
EchoesAreWords =
    (s : ScenarioLists) (journal : List Entry) (e : EndpointId) (m reply : Message) → IsRun s journal → Echoes s e → Contains (runs_at journal e) m →
    reply_to journal m.serial ≡ Some reply → reply.words ≡ m.words

-- a message came to nothing: it came back, and where the plan withholds nothing for a cause that isn't transient; or it is unknown and did
-- not run, which is so only where the plan withholds something
abbrev pub CameToNothing : ScenarioLists → List Entry → Message → Type 0
CameToNothing s journal m =
    ((cause : Cause) × (fate journal m.serial ≡ Some (Fates.Returned cause)) × (WithholdsNothing s → is_transient cause ≡ false))
    ⊎ ((fate journal m.serial ≡ Some Fates.Unknown) × (WithholdsNothing s → ⊥))

-- a request that ran is answered, or its one reply came to nothing
pub record IsUnanswered (s : ScenarioLists) (journal : List Entry) (m : Message) : Type 0 where
  pub reply : Message
  pub only : filter (is_about m.serial) (filter_map accepted_of journal) ≡ reply ∷ []
  pub nothing : CameToNothing s journal reply

abbrev pub EachReplyHasItsEnd : Type 0
EachReplyHasItsEnd =
    (s : ScenarioLists) (journal : List Entry) (m : Message) → IsRun s journal → Contains (requests_run journal) m → reply_to journal m.serial ≡ None →
    IsUnanswered s journal m

-- what became of a request of the script with these words: it ran, it was refused when it was asked for, or it came to nothing
pub data EndOf (s : ScenarioLists) (journal : List Entry) (words : Words) : Type 0 where
  ItRan : (m : Message) → Contains (requests_run journal) m → m.words ≡ words → EndOf s journal words
  WasRefused : Contains (words_refused journal) words → EndOf s journal words
  IsGone : (m : Message) → Contains (requests_sent journal) m → m.words ≡ words → CameToNothing s journal m → EndOf s journal words

abbrev pub EachAskedHasItsEnd : Type 0
EachAskedHasItsEnd =
    (s : ScenarioLists) (journal : List Entry) (words : Words) → IsRun s journal → Contains (words_asked s.script) words → EndOf s journal words

-- where all lead to one endpoint, each request that ran, ran there
abbrev pub AllRunWhereTheyLead : Type 0
AllRunWhereTheyLead = (s : ScenarioLists) (journal : List Entry) (e : EndpointId) → IsRun s journal → LeadsTo s e → runs_at journal e ≡ requests_run journal

-- the sum of an endpoint that adds is that of what ran there
abbrev pub SumsAreOfRuns : Type 0
SumsAreOfRuns = (s : ScenarioLists) (journal : List Entry) (e : EndpointId) → IsRun s journal → Adds s e → IsSumOfRuns journal e

-- where as many requests ran there as the script asks for, it is that of all
abbrev pub first_of : Words → ℕ
first_of words = words.a

abbrev pub WholeSums : Type 0
WholeSums =
    (s : ScenarioLists) (journal : List Entry) (e : EndpointId) → IsRun s journal → Adds s e → length (runs_at journal e) ≡ length (words_asked s.script) →
    sum_at journal e ≡ sum_by first_of (words_asked s.script) % 2 ^ 64

-- every request that the script asks for has its end
abbrev pub EachRequestHasItsEnd : Type 0
EachRequestHasItsEnd = (s : ScenarioLists) (journal : List Entry) → IsRun s journal → AddUp s.script journal

-- a request ran only where the script sets a handler
abbrev pub is_handler : Call → Bool
is_handler (Calls.SetHandler index kind) = true
is_handler call = false

abbrev pub sets_handler : EndpointId → ScriptCall → Bool
sets_handler e made = same_end e made.endpoint && is_handler made.call

abbrev pub RunsWhereHandlersAre : Type 0
RunsWhereHandlersAre =
    (s : ScenarioLists) (journal : List Entry) (m : Message) → IsRun s journal → Contains (requests_run journal) m →
    list_any (sets_handler m.dest) s.script ≡ true

-- the sum that is read off the journal is the one that the endpoint has then
abbrev pub SumsAreTheEndpoints : Type 0
SumsAreTheEndpoints =
    (s : ScenarioLists) (journal : List Entry) (e : EndpointId) → IsRun s journal → sum_at journal e ≡ (state_of (layout_of s) journal e).body.sum

-- what ran has the words of a request that the script asks for
abbrev pub WhatRanWasAskedFor : Type 0
WhatRanWasAskedFor =
    (s : ScenarioLists) (journal : List Entry) (m : Message) → IsRun s journal → Contains (requests_run journal) m → Contains (words_asked s.script) m.words

-- where the plan withholds nothing, no request is unknown
abbrev pub NothingIsUnknown : Type 0
NothingIsUnknown = (s : ScenarioLists) (journal : List Entry) → IsRun s journal → WithholdsNothing s → words_fated is_lost journal ≡ []

-- what calls add to a scenario: the words that they ask for; and an endpoint that adds or echoes, or to which all lead, stays so where each of
-- the calls leaves it so
pub record Grows (s : ScenarioLists) (calls : List ScriptCall) : Type 0 where
  pub asked : words_asked (s.script ++ calls) ≡ words_asked s.script ++ words_asked calls
  pub adds : (e : EndpointId) → Adds s e → list_all (leaves_adding e) calls ≡ true → Adds (with_calls s calls) e
  pub echoes : (e : EndpointId) → Echoes s e → list_all (leaves_echoing e) calls ≡ true → Echoes (with_calls s calls) e
  pub leads' : (e : EndpointId) → LeadsTo s e → list_all (leads e) calls ≡ true → LeadsTo (with_calls s calls) e

abbrev pub ScriptsGrow : Type 0
ScriptsGrow = (s : ScenarioLists) (calls : List ScriptCall) → Grows s calls
