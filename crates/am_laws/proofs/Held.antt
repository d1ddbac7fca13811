-- What is received by an endpoint: what was put there, under the own tag.
use Rattle.std.specs.Prelude.{is_some, is_none, not, nat_le, count_by}
use Rattle.std.proofs.Common.{◌≡◌, ◌⊎◌, inl, inr, ◌==◌, ◌&&◌, ℕ, Bool, true, false, cond, List, [], ◌∷◌, length, Option, Some, None, refl, sym, ap, ◌∙◌, subst}
use Rattle.std.proofs.Common.{eqb-true, if◌then◌else◌}
use Rattle.std.proofs.lemmas.Bool.{and_parts}
use Rattle.std.specs.List.{list_any, find}
use Rattle.std.proofs.lemmas.List.{nil_from_length}
use Rattle.am_names.specs.Rules.{matches}
use Rattle.am_names.specs.declared.EndpointId.{EndpointId}
use Rattle.am_names.specs.declared.Cause.TheVariants.{NoEndpoint, NotResident, BadTag, BadHandler, QueueFull, NoRequest}
use Rattle.am_names.specs.declared.Verdict.TheVariants as Verdicts
use Rattle.am_names.specs.declared.Message.{Message}
use Rattle.am_office_entries.specs.declared.Call.{Call}
use Rattle.am_office_entries.specs.declared.Call.TheVariants as Calls
use Rattle.am_office_entries.specs.declared.Refusal.TheVariants as No
use Rattle.am_office_entries.specs.declared.Event.{Event}
use Rattle.am_office_entries.specs.declared.Event.TheVariants as Events
use Rattle.am_office_entries.specs.declared.Received.{Received}
use Rattle.am_office_entries.specs.declared.Received.TheVariants as Got
use Rattle.am_office_entries.specs.declared.Outcome.{Outcome}
use Rattle.am_office_entries.specs.declared.Outcome.TheVariants as Out
use Rattle.am_names.specs.Names.{same_end, is_request, is_reply}
use Rattle.am_model.specs.Choice.{first_holding}
use Rattle.am_model.specs.declared.Notice.{Notice}
use Rattle.am_model.specs.Endpoint.{State, verdict, verdict_of, is_resident, entry_at, is_waited_for, replies_held}
use Rattle.am_model.specs.Calls.{outcome_of_call, unless, is_idle, still_held, messages_held, poll, poll_received, poll_requests, answer, is_reply_kind}
use Rattle.am_model.specs.Changes.{called, left, reached, paged_out, paged_in, changed, put, received, expired, bound}
use Rattle.am_office_entries.specs.Entries.{ends_touched, put_in, run_by}
use Rattle.am_model.specs.Layout.{AllAre}
use Rattle.am_model.specs.PostOffice.{RunsOwnHandler}
use Rattle.am_model.proofs.Received.{one_touched, FitsCall}
use Rattle.am_model.proofs.Own.{Own, own_kept}
use Rattle.am_model.proofs.Alls.{all_push}
use Rattle.am_laws.proofs.Alls.{all_tail, all_found, all_without}

-- what a verdict that accepts tells
pub record IsWelcome (s : State) (m : Message) : Type 0 where
  pub open' : s.head.closed ≡ false
  pub resident : is_resident s.head.place ≡ true
  pub tag : matches s.body.tag m.tag ≡ true
  pub handler : (is_request m && is_none (entry_at s.body.handlers m.handler)) ≡ false
  pub room : (is_request m && nat_le 16 (count_by is_request s.body.received)) ≡ false
  pub awaited : (is_reply m && not (is_waited_for s.body.awaited m.about)) ≡ false

pub welcome : (s : State) (m : Message) → verdict s m ≡ Verdicts.Accepted → IsWelcome s m
welcome s m h = by_tests s.head.closed (is_resident s.head.place) (matches s.body.tag m.tag) (is_request m && is_none (entry_at s.body.handlers m.handler))
    (is_request m && nat_le 16 (count_by is_request s.body.received)) (is_reply m && not (is_waited_for s.body.awaited m.about)) refl refl refl refl refl refl h
  where
    by_tests : (a b c d e f : Bool) → s.head.closed ≡ a → is_resident s.head.place ≡ b → matches s.body.tag m.tag ≡ c →
        (is_request m && is_none (entry_at s.body.handlers m.handler)) ≡ d → (is_request m && nat_le 16 (count_by is_request s.body.received)) ≡ e →
        (is_reply m && not (is_waited_for s.body.awaited m.about)) ≡ f →
        verdict_of (first_holding ((a, NoEndpoint) ∷ (not b, NotResident) ∷ (not c, BadTag) ∷ (d, BadHandler) ∷ (e, QueueFull) ∷ (f, NoRequest) ∷ [])) ≡
        Verdicts.Accepted → IsWelcome s m
    by_tests true b c d e f h1 h2 h3 h4 h5 h6 h = absurd (cc)
    by_tests false false c d e f h1 h2 h3 h4 h5 h6 h = absurd (cc)
    by_tests false true false d e f h1 h2 h3 h4 h5 h6 h = absurd (cc)
    by_tests false true true true e f h1 h2 h3 h4 h5 h6 h = absurd (cc)
    by_tests false true true false true f h1 h2 h3 h4 h5 h6 h = absurd (cc)
    by_tests false true true false false true h1 h2 h3 h4 h5 h6 h = absurd (cc)
    by_tests false true true false false false h1 h2 h3 h4 h5 h6 h = record { open' = h1; resident = h2; tag = h3; handler = h4; room = h5; awaited = h6 }

-- the own tag stays, or nothing is received
pub record IsTagSteady (s t : State) : Type 0 where
  pub steady : (t.body.tag ≡ s.body.tag) ⊎ (t.body.received ≡ [])

pub unless_busy : (s : State) (closed idle : Bool) → is_idle s.body ≡ idle →
    unless (first_holding ((closed, No.Closed) ∷ (not idle, still_held s.body) ∷ [])) Out.Done ≡ Out.Done → idle ≡ true
unless_busy s true idle is h = absurd (cc)
unless_busy s false true is h = refl
unless_busy s false false is h = absurd (cc)

idle_received : (s : State) → is_idle s.body ≡ true → s.body.received ≡ []
idle_received s h =
    let outer = and_parts ((length s.body.received == 0) && (messages_held s.body == 0)) (length s.body.awaited == 0) h in
    let inner = and_parts (length s.body.received == 0) (messages_held s.body == 0) outer.0 in
    nil_from_length s.body.received (eqb-true (length s.body.received) 0 inner.0)

called_steady : (pool : Option ℕ) (end : EndpointId) (s : State) (c : Call) (o : Outcome) → o ≡ outcome_of_call pool end s c →
    (called s c o).body.tag ≡ s.body.tag ⊎ ((called s c o).body.received ≡ [])
called_steady pool end s (Calls.Request at handler words) (Out.Requested m) fits = inl refl
called_steady pool end s Calls.Poll (Out.Zero serial why) fits = inl refl
called_steady pool end s Calls.Poll (Out.Ran handler m None) fits = inl refl
called_steady pool end s Calls.Poll (Out.Ran handler m (Some reply)) fits = inl refl
called_steady pool end s (Calls.SetTag tag) Out.Done fits = inr (idle_received s (unless_busy s s.head.closed (is_idle s.body) refl (sym fits)))
called_steady pool end s (Calls.Map at name tag credits) Out.Done fits = inl refl
called_steady pool end s (Calls.Unmap at) Out.Done fits = inl refl
called_steady pool end s (Calls.SetHandler at kind) Out.Done fits = inl refl
called_steady pool end s (Calls.GiveUp serial) Out.Done fits = inl refl
called_steady pool end s Calls.Close Out.Done fits = inl refl
called_steady pool end s c o fits = inl refl

pub tag_steady : (pool : Option ℕ) (e : EndpointId) (s : State) (event : Event) (o : Outcome) → FitsCall pool s event o →
    ((changed e s event o).body.tag ≡ s.body.tag) ⊎ ((changed e s event o).body.received ≡ [])
tag_steady pool e s (Events.Call actor end call) o fits = called_steady pool end s call o fits
tag_steady pool e s event o fits = inl (ap (λ (w : Own). w.tag) (own_kept e s event o refl))

-- of each message that is received
abbrev pub ReceivedAre : (Message → Type 0) → State → Type 0
ReceivedAre R s = AllAre R s.body.received

called_held : (R : Message → Type 0) (s : State) (c : Call) (o : Outcome) → ReceivedAre R s → ReceivedAre R (called s c o)
called_held R s (Calls.Request at handler words) (Out.Requested m) h = h
called_held R s Calls.Poll (Out.Zero serial why) h = h
called_held R s Calls.Poll (Out.Ran handler m None) h = all_without R is_reply s.body.received h
called_held R s Calls.Poll (Out.Ran handler m (Some reply)) h = all_tail R s.body.received h
called_held R s (Calls.SetTag tag) Out.Done h = h
called_held R s (Calls.Map at name tag credits) Out.Done h = h
called_held R s (Calls.Unmap at) Out.Done h = h
called_held R s (Calls.SetHandler at kind) Out.Done h = h
called_held R s (Calls.GiveUp serial) Out.Done h = h
called_held R s Calls.Close Out.Done h = h
called_held R s c o h = h

left_held : (R : Message → Type 0) (s : State) (o : Outcome) (at : Bool) → ReceivedAre R s → ReceivedAre R (if at then left s o else s)
left_held R s (Out.Accepted m) true h = h
left_held R s (Out.Requeued m cause used) true h = h
left_held R s (Out.Returned m cause) true h = h
left_held R s o true h = h
left_held R s o false h = h

reached_held : (R : Message → Type 0) (e : EndpointId) (s : State) (o : Outcome) → ReceivedAre R s →
    ((m : Message) → o ≡ Out.Accepted m → same_end e m.dest ≡ true → R m) → ReceivedAre R (reached e s o)
reached_held R e s (Out.Accepted m) h p = by_test (same_end e m.dest) refl
  where
    by_test : (t : Bool) → same_end e m.dest ≡ t → ReceivedAre R (if t then put m s else s)
    by_test true is = all_push R s.body.received m h (p m refl is)
    by_test false is = h
reached_held R e s o h p = h

result_held : (R : Message → Type 0) (e : EndpointId) (s : State) (r : Received) → ReceivedAre R s →
    ((m : Message) (answer : ℕ) → r ≡ Got.Accepted m answer → R m) → ReceivedAre R (received e s r)
result_held R e s (Got.Accepted m answer) h p = all_push R s.body.received m h (p m answer refl)
result_held R e s (Got.Refused m NotResident answer) h p = h
result_held R e s (Got.Delivered serial) h p = h
result_held R e s (Got.Requeued serial cause used) h p = h
result_held R e s (Got.Returned serial cause) h p = h
result_held R e s r h p = h

expired_held : (R : Message → Type 0) (s : State) (o : Outcome) → ReceivedAre R s → ReceivedAre R (expired s o)
expired_held R s (Out.Delivered serial) h = h
expired_held R s (Out.Unknown serial) h = h
expired_held R s o h = h

bound_held : (R : Message → Type 0) (s : State) (o : Outcome) → ReceivedAre R s → ReceivedAre R (bound s o)
bound_held R s (Out.Sent m peer channel seq attempt number) h = h
bound_held R s o h = h

out_held : (R : Message → Type 0) (s : State) (o : Outcome) → ReceivedAre R s → ReceivedAre R (paged_out s o)
out_held R s Out.Done h = h
out_held R s o h = h

in_held : (R : Message → Type 0) (s : State) (o : Outcome) → ReceivedAre R s → ReceivedAre R (paged_in s o)
in_held R s Out.Done h = h
in_held R s o h = h

-- an entry that touches an endpoint: it has received what it had, and what is put there
pub held_kept : (R : Message → Type 0) (e : EndpointId) (s : State) (event : Event) (o : Outcome) → list_any (same_end e) (ends_touched event o) ≡ true →
    ReceivedAre R s → ((m : Message) → put_in event o ≡ Some m → same_end e m.dest ≡ true → R m) → ReceivedAre R (changed e s event o)
held_kept R e s (Events.Call actor end call) o t h p = called_held R s call o h
held_kept R e s (Events.Want actor end) o t h p = h
held_kept R e s (Events.Carry end) o t h p =
    reached_held R e (if same_end e end then left s o else s) o (left_held R s o (same_end e end) h) (λ m is at. p m (ap (put_in (Events.Carry end)) is) at)
held_kept R e s (Events.Bind node end) o t h p = bound_held R s o h
held_kept R e s (Events.Expire node peer channel) o t h p = expired_held R s o h
held_kept R e s (Events.Receive node peer number) (Out.Received channel seq attempt r) t h p =
    result_held R e s r h (λ m answer is. p m (ap (λ (v : Received). put_in (Events.Receive node peer number) (Out.Received channel seq attempt v)) is)
    (at m answer is))
  where
    at : (m : Message) (answer : ℕ) → r ≡ Got.Accepted m answer → same_end e m.dest ≡ true
    at m answer is = one_touched (same_end e m.dest) (subst (λ (v : Received). list_any (same_end e)
        (ends_touched (Events.Receive node peer number) (Out.Received channel seq attempt v)) ≡ true) is t)
held_kept R e s (Events.Receive node peer number) o t h p = h
held_kept R e s (Events.Drain node end) o t h p = h
held_kept R e s (Events.Unload node end) o t h p = h
held_kept R e s (Events.Load node end frame) o t h p = h
held_kept R e s (Events.PageOut node end) o t h p = out_held R s o h
held_kept R e s (Events.PageIn node end) o t h p = in_held R s o h

-- what a poll runs is received, and runs its own handler
pub record IsRunOf (R : Message → Type 0) (m : Message) (o : Outcome) : Type 0 where
  pub held : R m
  pub handler : RunsOwnHandler o

pub answers_is : (xs : List Message) (m : Message) → find is_reply xs ≡ Some m → is_reply m ≡ true
answers_is [] m e = absurd (cc)
answers_is (x ∷ xs) m e = by_test (is_reply x) refl e (answers_is xs m)
  where
    by_test : (b : Bool) → is_reply x ≡ b → cond b (Some x) (find is_reply xs) ≡ Some m → (find is_reply xs ≡ Some m → is_reply m ≡ true) → is_reply m ≡ true
    by_test true is h more = let same : x ≡ m = cc in subst (λ (w : Message). is_reply w ≡ true) same is
    by_test false is h more = more h

own_handler : (s : State) (m : Message) (b : Bool) → is_reply m ≡ true → RunsOwnHandler (Out.Ran (if b then Some m.handler else None) m None)
own_handler s m true is = refl
own_handler s m false is = is

pub polled_run : (R : Message → Type 0) (e : EndpointId) (s : State) (m : Message) → ReceivedAre R s → (notices : List Notice) →
    run_by Calls.Poll (poll e s notices) ≡ Some m → IsRunOf R m (poll e s notices)
polled_run R e s m h (notice ∷ notices) is = absurd (cc)
polled_run R e s m h [] is = by_found (find is_reply s.body.received) refl is
  where
    by_full : (n : Message) (full : Bool) → R n → let o = if full then Out.Blocked else Out.Ran (Some n.handler) n
        (Some (answer e s n (entry_at s.body.handlers n.handler))) in run_by Calls.Poll o ≡ Some m →
        IsRunOf R m o
    by_full n true r e = absurd (cc)
    by_full n false r e = let same : n ≡ m = cc in record { held = subst R same r; handler = refl }

    by_list : (xs : List Message) → AllAre R xs → run_by Calls.Poll (poll_requests e s xs) ≡ Some m → IsRunOf R m (poll_requests e s xs)
    by_list [] all e = absurd (cc)
    by_list (n ∷ ns) all e = by_full n (nat_le 16 (replies_held s.body)) all.0 e

    by_found : (f : Option Message) → find is_reply s.body.received ≡ f → run_by Calls.Poll (poll_received e s f) ≡ Some m → IsRunOf R m (poll_received e s f)
    by_found (Some n) at e =
        let same : n ≡ m = cc in
        record {
          held = all_found R is_reply s.body.received m (at ∙ ap (λ (w : Message). Some w) same) h;
          handler = own_handler s n (is_reply_kind n.kind && is_some (entry_at s.body.handlers n.handler)) (answers_is s.body.received n at);
        }
    by_found None at e = by_list s.body.received h e
