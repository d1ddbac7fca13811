-- What a library sees of the journal of a run.
use Rattle.std.specs.Prelude.{ℕ, Bool, Option, Some, None, List, filter, filter_map, find, fold, replicate, slice_set, if◌then◌else◌}
use Rattle.am_names.specs.declared.EndpointId.{EndpointId}
use Rattle.am_names.specs.declared.Message.{Message}
use Rattle.am_names.specs.declared.Serial.{Serial}
use Rattle.am_names.specs.Names.{is_request, same_end}
use Rattle.am_office_entries.specs.declared.Call.TheVariants as Calls
use Rattle.am_office_entries.specs.declared.Entry.{Entry}
use Rattle.am_office_entries.specs.declared.Event.{Event}
use Rattle.am_office_entries.specs.declared.Event.TheVariants as Events
use Rattle.am_office_entries.specs.declared.Outcome.{Outcome}
use Rattle.am_office_entries.specs.declared.Outcome.TheVariants as Out
use Rattle.am_office_entries.specs.Entries.{accepted_of, run_of}
use Rattle.am_model.specs.Calls.{sum_after}
use Rattle.am_model.specs.Changes.{kind_run}
use Rattle.am_model.specs.PostOffice.{is_about}
use Rattle.am_library_views.specs.declared.entries.HandlerRun.{HandlerRun}
use Rattle.am_library_views.specs.declared.runs.Run.{Run}
use Rattle.am_library_views.specs.declared.sums.Summing.{Summing}

-- the requests that were accepted, in order
abbrev pub requests_sent : List Entry → List Message
requests_sent journal = filter is_request (filter_map accepted_of journal)

-- the requests that ran, in order
abbrev pub requests_run : List Entry → List Message
requests_run journal = filter is_request (filter_map run_of journal)

abbrev pub is_to : EndpointId → Message → Bool
is_to e m = same_end e m.dest

-- the requests that ran at an endpoint, in order: each runs at its destination
abbrev pub runs_at : List Entry → EndpointId → List Message
runs_at journal e = filter (is_to e) (requests_run journal)

abbrev pub first_word : Message → ℕ
first_word m = m.words.a

-- the reply to a request, where the endpoint that made the request ran it: it is the message about the request that ran
abbrev pub reply_to : List Entry → Serial → Option Message
reply_to journal s = find (is_about s) (filter_map run_of journal)

-- a request that ran, with the reply to it
abbrev pub with_reply : List Entry → Message → Run
with_reply journal m = record { request = m; reply = reply_to journal m.serial }

-- ---- what handlers ran, by the endpoint, the handler's index there and the words of the message

abbrev pub handler_run_in : Event → Outcome → Option HandlerRun
handler_run_in (Events.Call actor end Calls.Poll) (Out.Ran (Some handler) m sends) = Some (record { end = end; handler = handler; words = m.words })
handler_run_in event outcome = None

-- what a handler runs by an entry
abbrev pub handler_run_of : Entry → Option HandlerRun
handler_run_of x = handler_run_in x.event x.outcome

-- ---- the sum of an endpoint, with the handlers that are set there

-- before the first entry
abbrev pub unsummed : Summing
unsummed = record { kinds = replicate 16 None; sum = 0 }

-- after a handler was set
abbrev pub with_set : EndpointId → Summing → Event → Outcome → Summing
with_set e t (Events.Call actor end (Calls.SetHandler index kind)) Out.Done = record t {
  kinds =
      if same_end e end then slice_set t.kinds index (Some kind) else t.kinds;
}
with_set e t event outcome = t

-- after a handler ran
abbrev pub with_run : EndpointId → Summing → Option HandlerRun → Summing
with_run e t None = t
with_run e t (Some run) = record t {
  sum =
      if same_end e run.end then sum_after (kind_run t.kinds (Some run.handler)) run.words t.sum else t.sum;
}

-- after an entry
abbrev pub summed_by : EndpointId → Summing → Event → Outcome → Summing
summed_by e t event outcome = with_run e (with_set e t event outcome) (handler_run_in event outcome)

abbrev pub summed : EndpointId → Summing → Entry → Summing
summed e t x = summed_by e t x.event x.outcome

abbrev pub summing : List Entry → EndpointId → Summing
summing journal e = fold (summed e) unsummed journal

-- the sum that an endpoint has after the journal's entries
abbrev pub sum_at : List Entry → EndpointId → ℕ
sum_at journal e = (summing journal e).sum
