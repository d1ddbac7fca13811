-- An outstanding request has a waiting record.
use Rattle.std.specs.Prelude.{not}
use Rattle.std.proofs.Common.{◌≡◌, ℕ, Bool, true, false, cond, ◌&&◌, ◌||◌, List, [], ◌∷◌, ◌++◌, Option, Some, None, refl, sym, ap, ◌∙◌, subst, true≢false}
use Rattle.std.proofs.Common.{if◌then◌else◌}
use Rattle.std.proofs.lemmas.Bool.{and_parts, or_parts, or_right}
use Rattle.std.proofs.lemmas.List.Folds.{list_any-append}
use Rattle.std.specs.List.{list_any, find}
use Rattle.am_lemmas.proofs.Bools.{or_first_fails}
use Rattle.am_names.specs.declared.EndpointId.{EndpointId}
use Rattle.am_names.specs.declared.NodeId.{NodeId}
use Rattle.am_names.specs.declared.Serial.{Serial}
use Rattle.am_names.specs.declared.Cause.TheVariants.{NotResident}
use Rattle.am_names.specs.declared.Message.{Message}
use Rattle.am_office_entries.specs.declared.Actor.{Actor}
use Rattle.am_office_entries.specs.declared.Call.{Call}
use Rattle.am_office_entries.specs.declared.Call.TheVariants as Calls
use Rattle.am_office_entries.specs.declared.Event.{Event}
use Rattle.am_office_entries.specs.declared.Event.TheVariants as Events
use Rattle.am_office_entries.specs.declared.Received.{Received}
use Rattle.am_office_entries.specs.declared.Received.TheVariants as Got
use Rattle.am_office_entries.specs.declared.Outcome.{Outcome}
use Rattle.am_office_entries.specs.declared.Outcome.TheVariants as Out
use Rattle.am_office_entries.specs.declared.Entry.{Entry}
use Rattle.am_names.specs.Names.{same_end, same_serial, has_serial, is_request, is_reply}
use Rattle.am_model.specs.Choice.{without_first}
use Rattle.am_model.specs.declared.Awaited.{Awaited}
use Rattle.am_model.specs.Endpoint.{State, waits_for}
use Rattle.am_model.specs.Calls.{new_serial}
use Rattle.am_model.specs.Changes.{called, left, reached, paged_out, paged_in, changed, put, received, expired, bound, without_waiting, without_record, is_of}
use Rattle.am_model.specs.Changes.{arrived, with_arrived}
use Rattle.am_office_entries.specs.Entries.{accepted_by, accepted_in, accepted_of, put_in, put_of, run_by, run_in, run_of, returned_in, returned_of, returned_by}
use Rattle.am_office_entries.specs.Entries.{unknown_in, unknown_of, given_up_in, given_up_of, ends_touched, touches, passes, is_serial}
use Rattle.am_model.specs.Layout.{Layout, AllAre, EndSetting, has_id, opening_by}
use Rattle.am_model.specs.History.{state_of, MayFollow, IsHistory, outcome_of}
use Rattle.am_model.specs.PostOffice.{Gave, is_about, ends_wait, is_outstanding, SendsOne, SendsOneReply}
use Rattle.am_model.proofs.Each.{over_each, state_of_push}
use Rattle.am_model.proofs.Names.{same_serial-is, same_end-refl}
use Rattle.am_model.proofs.Received.{one_touched}
use Rattle.am_model.proofs.Counts.{Accepts, accepts_next, HasSerial}
use Rattle.am_laws.proofs.Alls.{all_map, gave_more, gave_now}
use Rattle.am_laws.proofs.Held.{held_kept, polled_run}
use Rattle.am_laws.proofs.ReplyMessages.{event_one}
use Rattle.am_laws.proofs.Gave.{gave_any}

abbrev pub waits : Serial → List Awaited → Bool
waits s awaited = list_any (waits_for s) awaited

-- what goes is not what is looked for
any_without : (p q : Awaited → Bool) (xs : List Awaited) → ((a : Awaited) → q a ≡ true → p a ≡ false) → list_any p xs ≡ true →
    list_any p (without_first q xs) ≡ true
any_without p q [] apart h = h
any_without p q (a ∷ xs) apart h = by_test (λ e. any_without p q xs apart e) (q a) refl (p a) refl h
  where
    by_test : (list_any p xs ≡ true → list_any p (without_first q xs) ≡ true) → (b : Bool) → q a ≡ b → (c : Bool) → p a ≡ c → (p a || list_any p xs) ≡ true →
        list_any p (cond b xs (a ∷ without_first q xs)) ≡ true
    by_test more true is c at e = let off : p a ≡ false = apart a is in subst (λ (d : Bool). (d || list_any p xs) ≡ true) off e
    by_test more false is true at e = rw at refl
    by_test more false is false at e = or_right (p a) (list_any p (without_first q xs)) (more (subst (λ (d : Bool). (d || list_any p xs) ≡ true) at e))

other_serial : (s t : Serial) (a : Awaited) → same_serial s t ≡ false → same_serial t a.serial ≡ true → same_serial s a.serial ≡ false
other_serial s t a apart is = subst (λ (w : Serial). same_serial s w ≡ false) (same_serial-is t a.serial is) apart

pub waits_without : (s t : Serial) (xs : List Awaited) → same_serial s t ≡ false → waits s xs ≡ true → waits s (without_waiting t xs) ≡ true
waits_without s t xs apart h = any_without (waits_for s) (waits_for t) xs off h
  where
    off : (a : Awaited) → waits_for t a ≡ true → waits_for s a ≡ false
    off a is = let o : same_serial s a.serial ≡ false = other_serial s t a apart (and_parts (same_serial t a.serial) (not a.arrived) is).0 in rw o refl

waits_settled : (s : Serial) (about : Option Serial) (xs : List Awaited) → is_serial s about ≡ false → waits s xs ≡ true →
    waits s (without_record about xs) ≡ true
waits_settled s None xs apart h = h
waits_settled s (Some t) xs apart h = any_without (waits_for s) (is_of t) xs off h
  where
    off : (a : Awaited) → is_of t a ≡ true → waits_for s a ≡ false
    off a is = let o : same_serial s a.serial ≡ false = other_serial s t a apart is in rw o refl

waits_arrived : (s : Serial) (about : Option Serial) (xs : List Awaited) → is_serial s about ≡ false → waits s xs ≡ true →
    waits s (with_arrived about xs) ≡ true
waits_arrived s None xs apart h = h
waits_arrived s (Some t) [] apart h = h
waits_arrived s (Some t) (a ∷ xs) apart h = by_test (λ e. waits_arrived s (Some t) xs apart e) (waits_for s a) refl h
  where
    same : waits_for s a ≡ true → waits_for s (arrived t a) ≡ true
    same is =
        let parts = and_parts (same_serial s a.serial) (not a.arrived) is in
        let there : s ≡ a.serial = same_serial-is s a.serial parts.0 in
        let off : same_serial t a.serial ≡ false = by_other (same_serial t a.serial) refl in
        rw parts.0 (rw off (by_arrived a.arrived parts.1))
      where
        by_other : (b : Bool) → same_serial t a.serial ≡ b → b ≡ false
        by_other false e = refl
        by_other true e = absurd (true≢false (sym ((and_parts (same_serial s a.serial) (not a.arrived) is).0) ∙ other_serial s t a apart e))

        by_arrived : (b : Bool) → not b ≡ true → not (b || false) ≡ true
        by_arrived true e = e
        by_arrived false e = refl

    by_test : (waits s xs ≡ true → waits s (with_arrived (Some t) xs) ≡ true) → (b : Bool) → waits_for s a ≡ b → (b || waits s xs) ≡ true →
        (waits_for s (arrived t a) || waits s (with_arrived (Some t) xs)) ≡ true
    by_test more true is e = rw (same is) refl
    by_test more false is e = or_right (waits_for s (arrived t a)) (waits s (with_arrived (Some t) xs)) (more e)

waits_push : (s : Serial) (xs : List Awaited) (a : Awaited) → waits s xs ≡ true → waits s (xs ++ a ∷ []) ≡ true
waits_push s xs a h = list_any-append (waits_for s) xs (a ∷ []) ∙ (rw h refl)

-- an entry that does not end the wait keeps the record
called_waits : (s : Serial) (st : State) (actor : Actor) (end : EndpointId) (c : Call) (o : Outcome) →
    is_serial s (given_up_in (Events.Call actor end c) o) ≡ false → ((m : Message) → run_by c o ≡ Some m → is_about s m ≡ false) →
    waits s st.body.awaited ≡ true → waits s (called st c o).body.awaited ≡ true
called_waits s st actor end (Calls.Request index handler words) (Out.Requested m) g r h =
    waits_push s st.body.awaited (record { index = index; serial = m.serial; arrived = false }) h
called_waits s st actor end Calls.Poll (Out.Zero serial why) g r h = h
called_waits s st actor end Calls.Poll (Out.Ran handler m None) g r h = waits_settled s m.about st.body.awaited (r m refl) h
called_waits s st actor end Calls.Poll (Out.Ran handler m (Some reply)) g r h = h
called_waits s st actor end (Calls.SetTag tag) Out.Done g r h = h
called_waits s st actor end (Calls.Map index name tag credits) Out.Done g r h = h
called_waits s st actor end (Calls.Unmap index) Out.Done g r h = h
called_waits s st actor end (Calls.SetHandler index kind) Out.Done g r h = h
called_waits s st actor end (Calls.GiveUp serial) Out.Done g r h = waits_without s serial st.body.awaited g h
called_waits s st actor end Calls.Close Out.Done g r h = h
called_waits s st actor end c o g r h = h

left_waits : (s : Serial) (end : EndpointId) (st : State) (o : Outcome) (t : Bool) → is_serial s (returned_in (Events.Carry end) o) ≡ false →
    waits s st.body.awaited ≡ true → waits s (if t then left st o else st).body.awaited ≡ true
left_waits s end st (Out.Accepted m) true g h = h
left_waits s end st (Out.Requeued m cause bounces) true g h = h
left_waits s end st (Out.Returned m cause) true g h = waits_without s m.serial st.body.awaited g h
left_waits s end st o true g h = h
left_waits s end st o false g h = h

reached_waits : (s : Serial) (e end : EndpointId) (st : State) (o : Outcome) → passes (is_about s) (put_in (Events.Carry end) o) ≡ false →
    waits s st.body.awaited ≡ true → waits s (reached e st o).body.awaited ≡ true
reached_waits s e end st (Out.Accepted m) g h = by_test (same_end e m.dest)
  where
    by_test : (b : Bool) → waits s (if b then put m st else st).body.awaited ≡ true
    by_test true = waits_arrived s m.about st.body.awaited g h
    by_test false = h
reached_waits s e end st o g h = h

received_waits : (s : Serial) (e : EndpointId) (st : State) (node peer : NodeId) (number channel seq attempt : ℕ) (r : Received) →
    passes (is_about s) (put_in (Events.Receive node peer number) (Out.Received channel seq attempt r)) ≡ false → is_serial s (returned_by r) ≡ false →
    waits s st.body.awaited ≡ true → waits s (received e st r).body.awaited ≡ true
received_waits s e st node peer number channel seq attempt (Got.Accepted m answer) g b h = waits_arrived s m.about st.body.awaited g h
received_waits s e st node peer number channel seq attempt (Got.Refused m NotResident answer) g b h = h
received_waits s e st node peer number channel seq attempt (Got.Delivered t) g b h = h
received_waits s e st node peer number channel seq attempt (Got.Requeued t cause bounces) g b h = h
received_waits s e st node peer number channel seq attempt (Got.Returned t cause) g b h = waits_without s t st.body.awaited b h
received_waits s e st node peer number channel seq attempt r g b h = h

expired_waits : (s : Serial) (st : State) (node peer : NodeId) (channel : ℕ) (o : Outcome) →
    is_serial s (unknown_in (Events.Expire node peer channel) o) ≡ false → waits s st.body.awaited ≡ true → waits s (expired st o).body.awaited ≡ true
expired_waits s st node peer channel (Out.Delivered t) g h = h
expired_waits s st node peer channel (Out.Unknown t) g h = waits_without s t st.body.awaited g h
expired_waits s st node peer channel o g h = h

bound_waits : (s : Serial) (st : State) (o : Outcome) → waits s st.body.awaited ≡ true → waits s (bound st o).body.awaited ≡ true
bound_waits s st (Out.Sent m peer channel seq attempt number) h = h
bound_waits s st o h = h

out_waits : (s : Serial) (st : State) (o : Outcome) → waits s st.body.awaited ≡ true → waits s (paged_out st o).body.awaited ≡ true
out_waits s st Out.Done h = h
out_waits s st o h = h

in_waits : (s : Serial) (st : State) (o : Outcome) → waits s st.body.awaited ≡ true → waits s (paged_in st o).body.awaited ≡ true
in_waits s st Out.Done h = h
in_waits s st o h = h

pub record IsNoEnd (s : Serial) (event : Event) (o : Outcome) : Type 0 where
  pub put : passes (is_about s) (put_in event o) ≡ false
  pub returned : is_serial s (returned_in event o) ≡ false
  pub unknown : is_serial s (unknown_in event o) ≡ false
  pub given : is_serial s (given_up_in event o) ≡ false

no_end : (s : Serial) (x : Entry) → ends_wait s x ≡ false → IsNoEnd s x.event x.outcome
no_end s x h = by_parts (passes (is_about s) (put_of x)) (is_serial s (returned_of x)) (is_serial s (unknown_of x)) (is_serial s (given_up_of x)) refl refl refl
    refl h
  where
    by_parts : (a b c d : Bool) → passes (is_about s) (put_of x) ≡ a → is_serial s (returned_of x) ≡ b → is_serial s (unknown_of x) ≡ c →
        is_serial s (given_up_of x) ≡ d → (a || b || c || d) ≡ false → IsNoEnd s x.event x.outcome
    by_parts true b c d ha hb hc hd e = absurd (cc)
    by_parts false true c d ha hb hc hd e = absurd (cc)
    by_parts false false true d ha hb hc hd e = absurd (cc)
    by_parts false false false true ha hb hc hd e = absurd (cc)
    by_parts false false false false ha hb hc hd e = record { put = ha; returned = hb; unknown = hc; given = hd }

pub changed_waits : (s : Serial) (e : EndpointId) (st : State) (event : Event) (o : Outcome) → IsNoEnd s event o →
    ((m : Message) → run_in event o ≡ Some m → is_about s m ≡ false) → waits s st.body.awaited ≡ true → waits s (changed e st event o).body.awaited ≡ true
changed_waits s e st (Events.Call actor end call) o n r h = called_waits s st actor end call o n.given r h
changed_waits s e st (Events.Want actor end) o n r h = h
changed_waits s e st (Events.Carry end) o n r h = reached_waits s e end (if same_end e end then left st o else st) o n.put
    (left_waits s end st o (same_end e end) n.returned h)
changed_waits s e st (Events.Bind node end) o n r h = bound_waits s st o h
changed_waits s e st (Events.Expire node peer channel) o n r h = expired_waits s st node peer channel o n.unknown h
changed_waits s e st (Events.Receive node peer number) (Out.Received channel seq attempt result) n r h =
    received_waits s e st node peer number channel seq attempt result n.put n.returned h
changed_waits s e st (Events.Receive node peer number) o n r h = h
changed_waits s e st (Events.Drain node end) o n r h = h
changed_waits s e st (Events.Unload node end) o n r h = h
changed_waits s e st (Events.Load node end frame) o n r h = h
changed_waits s e st (Events.PageOut node end) o n r h = out_waits s st o h
changed_waits s e st (Events.PageIn node end) o n r h = in_waits s st o h

-- what is received was put
abbrev pub ReceivedWasPut : Layout → List Entry → Type 0
ReceivedWasPut layout past = (e : EndpointId) → AllAre (Gave put_of past) (state_of layout past e).body.received

put_more : (layout : Layout) (past : List Entry) (x : Entry) → ReceivedWasPut layout past → MayFollow layout past x → ReceivedWasPut layout (past ++ x ∷ [])
put_more layout past x r may = λ e. by_test e (touches e x) refl
  where
    later : (e : EndpointId) → AllAre (Gave put_of (past ++ x ∷ [])) (state_of layout past e).body.received
    later e = all_map (Gave put_of past) (Gave put_of (past ++ x ∷ [])) (state_of layout past e).body.received (λ m. gave_more put_of past x m) (r e)

    by_test : (e : EndpointId) (t : Bool) → touches e x ≡ t → AllAre (Gave put_of (past ++ x ∷ [])) (state_of layout (past ++ x ∷ []) e).body.received
    by_test e true at = rw (state_of_push layout past x e true at) (held_kept (Gave put_of (past ++ x ∷ [])) e (state_of layout past e) x.event x.outcome at
        (later e) (λ m is on. gave_now put_of past x m is))
    by_test e false at = rw (state_of_push layout past x e false at) (later e)

-- what runs was put before
event_run : (layout : Layout) (past : List Entry) → ReceivedWasPut layout past → (event : Event) (m : Message) →
    run_in event (outcome_of layout past event) ≡ Some m → Gave put_of past m
event_run layout past r (Events.Call actor end Calls.Poll) m h =
    (polled_run (Gave put_of past) end (state_of layout past end) m (r end) (state_of layout past end).body.notices h).held
event_run layout past r (Events.Call actor end call) m h = absurd (cc)
event_run layout past r event m h = absurd (cc)

-- the request that an entry accepts has a record from then on
called_new : (s : Serial) (st : State) (c : Call) (o : Outcome) → SendsOneReply c o → passes (λ m. has_serial s m && is_request m) (accepted_by c o) ≡ true →
    waits s (called st c o).body.awaited ≡ true
called_new s st (Calls.Request index handler words) (Out.Requested m) one h =
    let mine : same_serial s m.serial ≡ true = (and_parts (has_serial s m) (is_request m) h).0 in
    list_any-append (waits_for s) st.body.awaited (record { index = index; serial = m.serial; arrived = false } ∷ [])
    ∙ or_right (waits s st.body.awaited) ((same_serial s m.serial && true) || false) (rw mine refl)
called_new s st Calls.Poll (Out.Ran handler m (Some reply)) one h =
    let kind : is_request reply ≡ true = (and_parts (has_serial s reply) (is_request reply) h).1 in
    let answer : is_reply reply ≡ true = one.1 in
    absurd (true≢false (sym answer ∙ rw kind refl))
called_new s st c o one h = absurd (cc)

new_touches : (layout : Layout) (past : List Entry) (s : Serial) (event : Event) (o : Outcome) → Accepts layout past event o → SendsOne event o →
    passes (λ m. has_serial s m && is_request m) (accepted_in event o) ≡ true →
    (list_any (same_end s.source) (ends_touched event o) ≡ true) × (waits s (changed s.source (state_of layout past s.source) event o).body.awaited ≡ true)
new_touches layout past s (Events.Call actor end call) o next one h = (
  by_message (accepted_by call o) next h,
  called_new s (state_of layout past s.source) call o one h,
)
  where
    by_message : (n : Option Message) → HasSerial (new_serial end (state_of layout past end)) n → passes (λ m. has_serial s m && is_request m) n ≡ true →
        (same_end s.source end || false) ≡ true
    by_message None next' e = absurd (true≢false (sym e))
    by_message (Some m) next' e =
        let same : s ≡ m.serial = same_serial-is s m.serial (and_parts (has_serial s m) (is_request m) e).0 in
        let there : s.source ≡ end = ap (λ (w : Serial). w.source) (same ∙ next') in
        subst (λ (w : EndpointId). (same_end s.source w || false) ≡ true) there (ap (λ (b : Bool). b || false) (same_end-refl s.source))
new_touches layout past s event o next one h = absurd (true≢false (sym h))

-- an outstanding request has a waiting record at its source
pub record RecordsWait (layout : Layout) (past : List Entry) : Type 0 where
  pub puts : ReceivedWasPut layout past
  pub waiting : (s : Serial) → is_outstanding past s ≡ true → waits s (state_of layout past s.source).body.awaited ≡ true

records_more : (layout : Layout) (past : List Entry) (x : Entry) → RecordsWait layout past → MayFollow layout past x → RecordsWait layout (past ++ x ∷ [])
records_more layout past x k may = record { puts = put_more layout past x k.puts may; waiting = waiting }
  where
    waiting : (s : Serial) → is_outstanding (past ++ x ∷ []) s ≡ true → waits s (state_of layout (past ++ x ∷ []) s.source).body.awaited ≡ true
    waiting s h = by_asked (list_any (λ (y : Entry). passes (λ m. has_serial s m && is_request m) (accepted_of y)) past) refl
      where
        both : (list_any (λ (y : Entry). passes (λ m. has_serial s m && is_request m) (accepted_of y)) (past ++ x ∷ []) ≡ true) ×
            (not (list_any (ends_wait s) (past ++ x ∷ [])) ≡ true)
        both = and_parts (list_any (λ (y : Entry). passes (λ m. has_serial s m && is_request m) (accepted_of y)) (past ++ x ∷ []))
            (not (list_any (ends_wait s) (past ++ x ∷ []))) h

        not_false : (b : Bool) → not b ≡ true → b ≡ false
        not_false true e = absurd (true≢false (sym e))
        not_false false e = refl

        ended : (list_any (ends_wait s) past || (ends_wait s x || false)) ≡ false
        ended = sym (list_any-append (ends_wait s) past (x ∷ [])) ∙ not_false (list_any (ends_wait s) (past ++ x ∷ [])) both.1

        before : list_any (ends_wait s) past ≡ false
        before = or_first_fails (list_any (ends_wait s) past) (ends_wait s x || false) ended

        now : ends_wait s x ≡ false
        now = or_first_fails (ends_wait s x) false (or_parts (list_any (ends_wait s) past) (ends_wait s x || false) ended).1

        runs : (m : Message) → run_of x ≡ Some m → is_about s m ≡ false
        runs m is = by_about (is_about s m) refl
          where
            by_about : (b : Bool) → is_about s m ≡ b → b ≡ false
            by_about false e = refl
            by_about true e =
                let given = event_run layout past k.puts x.event m (ap (run_in x.event) (sym may.outcome) ∙ is) in
                let any = gave_any put_of past m (ends_wait s) (λ y at. put_ends y at e) given in
                absurd (true≢false (sym any ∙ before))
              where
                put_ends : (y : Entry) → put_of y ≡ Some m → is_about s m ≡ true → ends_wait s y ≡ true
                put_ends y at e = let p : passes (is_about s) (put_of y) ≡ true = ap (passes (is_about s)) at ∙ e in rw p refl

        by_asked : (b : Bool) → list_any (λ (y : Entry). passes (λ m. has_serial s m && is_request m) (accepted_of y)) past ≡ b →
            waits s (state_of layout (past ++ x ∷ []) s.source).body.awaited ≡ true
        by_asked true is = by_touch (touches s.source x) refl
          where
            old : waits s (state_of layout past s.source).body.awaited ≡ true
            old = k.waiting s (rw (is, before) refl)

            by_touch : (t : Bool) → touches s.source x ≡ t → waits s (state_of layout (past ++ x ∷ []) s.source).body.awaited ≡ true
            by_touch true at = rw (state_of_push layout past x s.source true at) (changed_waits s s.source (state_of layout past s.source) x.event x.outcome
                (no_end s x now) runs old)
            by_touch false at = rw (state_of_push layout past x s.source false at) old
        by_asked false is =
            let new : (passes (λ m. has_serial s m && is_request m) (accepted_of x) || false) ≡ true =
            subst (λ (b : Bool). (b || (passes (λ m. has_serial s m && is_request m) (accepted_of x) || false)) ≡ true) is
            (sym (list_any-append (λ (y : Entry). passes (λ m. has_serial s m && is_request m) (accepted_of y)) past (x ∷ [])) ∙ both.0) in
            let t = new_touches layout past s x.event x.outcome (accepts_next layout past x.event x.outcome may.outcome)
            (subst (λ (o : Outcome). SendsOne x.event o) (sym may.outcome) (event_one layout past x.event))
            (one_touched (passes (λ m. has_serial s m && is_request m) (accepted_of x)) new) in
            rw (state_of_push layout past x s.source true t.0) t.1

pub records_wait : (layout : Layout) (past : List Entry) → IsHistory layout past → RecordsWait layout past
records_wait layout past h =
    over_each (MayFollow layout) (λ xs. RecordsWait layout xs) (λ xs x k may. records_more layout xs x k may) [] past
    (record { puts = λ e. none e (find (has_id e) layout.ends); waiting = λ s h. absurd (true≢false (sym h)) }) h
  where
    none : (e : EndpointId) (setting : Option EndSetting) → AllAre (Gave put_of []) (opening_by layout setting).body.received
    none e None = tt
    none e (Some setting) = tt
