-- What became of each request that a script asks for: its call was refused, or its message ran, came back or is unknown. Each is told by
-- the four words of the request.
use Rattle.std.specs.Prelude.{◌≡◌, ℕ, ◌+◌, Bool, true, false, ◌&&◌, Option, Some, None, List, map, filter, filter_map, sum_by, if◌then◌else◌}
use Rattle.am_names.specs.Names.{is_request}
use Rattle.am_names.specs.declared.Message.{Message}
use Rattle.am_names.specs.declared.Words.{Words}
use Rattle.am_office_entries.specs.declared.Call.{Call}
use Rattle.am_office_entries.specs.declared.Call.TheVariants as Calls
use Rattle.am_office_entries.specs.declared.Entry.{Entry}
use Rattle.am_office_entries.specs.declared.Event.{Event}
use Rattle.am_office_entries.specs.declared.Event.TheVariants as Events
use Rattle.am_office_entries.specs.declared.Outcome.{Outcome}
use Rattle.am_office_entries.specs.declared.Outcome.TheVariants as Out
use Rattle.am_office_entries.specs.declared.endings.Fate.{Fate}
use Rattle.am_office_entries.specs.declared.endings.Fate.TheVariants as Fates
use Rattle.am_office_entries.specs.Entries.{accepted_of, run_of}
use Rattle.am_office_entries.specs.Fates.{fate}
use Rattle.am_scenario_types.specs.declared.parts.ScriptCall.{ScriptCall}
use Rattle.am_library_views.specs.declared.endings.Ending.{Ending}
use Rattle.am_library_views.specs.declared.endings.Ending.TheVariants as End
use Rattle.am_library_views.specs.Views.{requests_run, requests_sent}

-- the words of the request that a call asks for
abbrev pub words_in : Call → Option Words
words_in (Calls.Request index handler words) = Some words
words_in call = None

-- the words of the requests that a script asks for, in order
abbrev pub words_asked : List ScriptCall → List Words
words_asked script = filter_map (λ (made : ScriptCall). words_in made.call) script

abbrev pub words_of : Message → Words
words_of m = m.words

-- the words of the requests that ran, in order
abbrev pub words_run : List Entry → List Words
words_run journal = map words_of (requests_run journal)

-- the words of the request that an entry runs
abbrev pub words_if_request : Option Message → Option Words
words_if_request None = None
words_if_request (Some m) = if is_request m then Some m.words else None

abbrev pub words_run_of : Entry → Option Words
words_run_of x = words_if_request (run_of x)

abbrev pub refused_in : Event → Outcome → Option Words
refused_in (Events.Call actor end (Calls.Request index handler words)) (Out.Refused cause) = Some words
refused_in event outcome = None

-- the words of the requests that were refused when they were asked for, in order
abbrev pub words_refused : List Entry → List Words
words_refused journal = filter_map (λ (x : Entry). refused_in x.event x.outcome) journal

-- whether it came back
abbrev pub is_back : Option Fate → Bool
is_back (Some (Fates.Returned cause)) = true
is_back fate = false

-- whether it is unknown, and no poll ran it
abbrev pub is_lost : Option Fate → Bool
is_lost (Some Fates.Unknown) = true
is_lost fate = false

-- the words of the accepted requests whose fate passes, in order
abbrev pub words_fated : (Option Fate → Bool) → List Entry → List Words
words_fated passes journal = map words_of (filter (λ (m : Message). passes (fate journal m.serial)) (requests_sent journal))

-- the words of the requests that ended so, in order
abbrev pub words_ended : Ending → List Entry → List Words
words_ended End.Refused journal = words_refused journal
words_ended End.Returned journal = words_fated is_back journal
words_ended End.Unknown journal = words_fated is_lost journal

-- ---- as it is read, entry by entry

-- whether a message whose fate this is ended so
abbrev pub is_ended : Ending → Option Fate → Bool
is_ended End.Refused fate = false
is_ended End.Returned fate = is_back fate
is_ended End.Unknown fate = is_lost fate

-- the words of a message, if it is a request and its fate passes
abbrev pub words_if : (Option Fate → Bool) → List Entry → Option Message → Option Words
words_if passes journal None = None
words_if passes journal (Some m) = if is_request m && passes (fate journal m.serial) then Some m.words else None

-- the words of the request that an entry asks for, if it ended so in this journal
abbrev pub ended_in : List Entry → Ending → Entry → Option Words
ended_in journal End.Refused x = refused_in x.event x.outcome
ended_in journal End.Returned x = words_if is_back journal (accepted_of x)
ended_in journal End.Unknown x = words_if is_lost journal (accepted_of x)

-- EVERY REQUEST HAS ITS END. Whatever the words of a request weigh: what the script asks for weighs as much as what ran, what was refused
-- when it was asked for, what came back, and what is unknown and did not run. With the weight 1 for words that pass, and 0 for others,
-- each of these is counted; with the first word, they are sums.
abbrev pub AddUp : List ScriptCall → List Entry → Type 0
AddUp script journal =
    (weight : Words → ℕ)
    → sum_by weight (words_asked script) ≡ sum_by weight (words_run journal) + sum_by weight (words_refused journal) + sum_by weight
    (words_fated is_back journal) + sum_by weight (words_fated is_lost journal)
