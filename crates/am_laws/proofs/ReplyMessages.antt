-- A reply is accepted only in the run of its request, and each run of a request accepts one.
use Rattle.std.specs.Prelude.{nat_le}
use Rattle.std.proofs.Common.{◌≡◌, ℕ, Bool, true, false, cond, List, [], ◌∷◌, Option, Some, None, refl, sym, subst, if◌then◌else◌}
use Rattle.std.specs.List.{find}
use Rattle.am_names.specs.declared.EndpointId.{EndpointId}
use Rattle.am_names.specs.declared.Message.{Message}
use Rattle.am_names.specs.declared.Words.{Words}
use Rattle.am_office_entries.specs.declared.HandlerKind.{HandlerKind}
use Rattle.am_office_entries.specs.declared.HandlerKind.TheVariants.{Note, Echo, Add}
use Rattle.am_office_entries.specs.declared.Call.{Call}
use Rattle.am_office_entries.specs.declared.Call.TheVariants as Calls
use Rattle.am_office_entries.specs.declared.Refusal.{Refusal}
use Rattle.am_office_entries.specs.declared.Event.{Event}
use Rattle.am_office_entries.specs.declared.Event.TheVariants as Events
use Rattle.am_office_entries.specs.declared.Outcome.{Outcome}
use Rattle.am_office_entries.specs.declared.Outcome.TheVariants as Out
use Rattle.am_office_entries.specs.declared.Entry.{Entry}
use Rattle.am_names.specs.Names.{is_request, is_reply}
use Rattle.am_model.specs.declared.Mapping.{Mapping}
use Rattle.am_model.specs.declared.Notice.{Notice}
use Rattle.am_model.specs.Endpoint.{State, entry_at, replies_held}
use Rattle.am_model.specs.Calls.{outcome_of_call, unless, request_refusal, new_request, poll, poll_received, poll_requests, answer}
use Rattle.am_model.specs.Layout.{Layout}
use Rattle.am_model.specs.History.{state_of, IsHistory, EachAfter, outcome_of}
use Rattle.am_model.specs.PostOffice.{SendsOneReply, SendsOne}
use Rattle.am_laws.proofs.Held.{answers_is}
use Rattle.am_laws.proofs.Delivered.{each_law}

request_one : (e : EndpointId) (st : State) (index handler : ℕ) (words : Words) (r : Option Refusal) (mapping : Option Mapping) →
    SendsOneReply (Calls.Request index handler words) (unless r (new_request e st mapping handler words))
request_one e st index handler words (Some r) mapping = tt
request_one e st index handler words None None = tt
request_one e st index handler words None (Some mapping) = refl

answer_one : (e : EndpointId) (st : State) (m : Message) (kind : Option HandlerKind) →
    (is_reply (answer e st m kind) ≡ true) × ((answer e st m kind).about ≡ Some m.serial)
answer_one e st m (Some (Echo to)) = (refl, refl)
answer_one e st m (Some (Add to)) = (refl, refl)
answer_one e st m (Some Note) = (refl, refl)
answer_one e st m None = (refl, refl)

first_request : (m : Message) (ms : List Message) → find is_reply (m ∷ ms) ≡ None → is_request m ≡ true
first_request m ms h = by_test (is_request m) refl h
  where
    by_test : (b : Bool) → is_request m ≡ b → cond (if b then false else true) (Some m) (find is_reply ms) ≡ None → b ≡ true
    by_test true is e = refl
    by_test false is e = absurd (cc)

poll_one : (e : EndpointId) (st : State) (notices : List Notice) → SendsOneReply Calls.Poll (poll e st notices)
poll_one e st (notice ∷ notices) = tt
poll_one e st [] = by_found (find is_reply st.body.received) refl
  where
    by_full : (m : Message) (full : Bool) → is_request m ≡ true →
        SendsOneReply Calls.Poll (if full then Out.Blocked else Out.Ran (Some m.handler) m (Some (answer e st m (entry_at st.body.handlers m.handler))))
    by_full m true is = tt
    by_full m false is = let a = answer_one e st m (entry_at st.body.handlers m.handler) in (is, a.0, a.1)

    by_list : (xs : List Message) → find is_reply xs ≡ None → SendsOneReply Calls.Poll (poll_requests e st xs)
    by_list [] none = tt
    by_list (m ∷ ms) none = by_full m (nat_le 16 (replies_held st.body)) (first_request m ms none)

    by_found : (f : Option Message) → find is_reply st.body.received ≡ f → SendsOneReply Calls.Poll (poll_received e st f)
    by_found (Some m) is = answers_is st.body.received m is
    by_found None is = by_list st.body.received is

call_one : (pool : Option ℕ) (e : EndpointId) (st : State) (c : Call) → SendsOneReply c (outcome_of_call pool e st c)
call_one pool e st (Calls.Request index handler words) = request_one e st index handler words (request_refusal pool st index) (entry_at st.body.mapped index)
call_one pool e st Calls.Poll = poll_one e st st.body.notices
call_one pool e st (Calls.SetTag tag) = tt
call_one pool e st (Calls.Map index name tag credits) = tt
call_one pool e st (Calls.Unmap index) = tt
call_one pool e st (Calls.SetHandler index kind) = tt
call_one pool e st (Calls.GiveUp serial) = tt
call_one pool e st Calls.Close = tt
call_one pool e st (Calls.Test mask) = tt

pub event_one : (layout : Layout) (past : List Entry) (event : Event) → SendsOne event (outcome_of layout past event)
event_one layout past (Events.Call actor end call) = call_one layout.pool end (state_of layout past end) call
event_one layout past event = tt

pub sends_one : (layout : Layout) (journal : List Entry) → IsHistory layout journal → EachAfter (λ past x. SendsOne x.event x.outcome) [] journal
sends_one layout journal h =
    each_law layout (λ past x. SendsOne x.event x.outcome) (λ past x p may. subst (λ (o : Outcome). SendsOne x.event o) (sym may.outcome)
    (event_one layout past x.event)) journal h
