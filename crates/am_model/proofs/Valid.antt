-- A body stays one that its endpoint may have.
use Rattle.std.specs.Prelude.{nat_le, nat_lt, not, is_none, is_some}
use Rattle.std.proofs.Common.{◌≡◌, ℕ, ◌+◌, ◌≤◌, ◌<◌, Bool, true, false, ◌&&◌, ◌==◌, List, [], ◌∷◌, ◌++◌, length, drop, Option, Some, None, refl, sym, ap, ◌∙◌}
use Rattle.std.proofs.Common.{subst, arith, leb-false, true≢false, if◌then◌else◌}
use Rattle.std.specs.List.{find, list_all}
use Rattle.std.specs.Prelude.{slice_set}
use Rattle.std.proofs.lemmas.Bool.{and_parts, and_from, ltb-true, eqb-true, eqb-false}
use Rattle.std.proofs.lemmas.List.{append-nil, get_or-set_other, length-set}
use Rattle.std.proofs.lemmas.List.Folds.{list_all-map}
use Rattle.am_lemmas.proofs.Options.{not_some-None}
use Rattle.am_names.specs.Names.{has_serial, same_end, is_reply, is_well_formed}
use Rattle.am_names.specs.Rules.{is_transient}
use Rattle.am_names.specs.declared.Cause.{Cause}
use Rattle.am_names.specs.declared.Cause.TheVariants as Causes
use Rattle.am_names.specs.declared.EndpointId.{EndpointId}
use Rattle.am_names.specs.declared.Message.{Message}
use Rattle.am_names.specs.declared.NodeId.{NodeId}
use Rattle.am_names.specs.declared.Serial.{Serial}
use Rattle.am_names.specs.declared.Tag.{Tag}
use Rattle.am_names.specs.declared.Verdict.{Verdict}
use Rattle.am_names.specs.declared.Verdict.TheVariants as Verdicts
use Rattle.am_names.specs.declared.Why.{Why}
use Rattle.am_names.specs.declared.Why.TheVariants as Whys
use Rattle.am_names.specs.declared.Words.{Words}
use Rattle.am_office_entries.specs.declared.Call.{Call}
use Rattle.am_office_entries.specs.declared.Call.TheVariants as Calls
use Rattle.am_office_entries.specs.declared.Event.{Event}
use Rattle.am_office_entries.specs.declared.Event.TheVariants as Events
use Rattle.am_office_entries.specs.declared.HandlerKind.{HandlerKind}
use Rattle.am_office_entries.specs.declared.HandlerKind.TheVariants.{Note, Echo, Add}
use Rattle.am_office_entries.specs.declared.Mask.{Mask}
use Rattle.am_office_entries.specs.declared.Outcome.{Outcome}
use Rattle.am_office_entries.specs.declared.Outcome.TheVariants as Out
use Rattle.am_office_entries.specs.declared.Place.{Place}
use Rattle.am_office_entries.specs.declared.Received.{Received}
use Rattle.am_office_entries.specs.declared.Received.TheVariants as Got
use Rattle.am_office_entries.specs.declared.Refusal.{Refusal}
use Rattle.am_office_entries.specs.declared.Refusal.TheVariants as No
use Rattle.am_office_entries.specs.declared.Entry.{Entry}
use Rattle.am_model.specs.declared.Flying.{Flying}
use Rattle.am_model.specs.declared.Mapping.{Mapping}
use Rattle.am_model.specs.declared.Notice.{Notice}
use Rattle.am_model.specs.declared.Queued.{Queued}
use Rattle.am_model.specs.Choice.{first_holding}
use Rattle.am_model.specs.Endpoint.{State, Body, entry_at, fresh, front, front_of, replies_held, requests_held, verdict, waits_for}
use Rattle.am_model.specs.Calls.{answer, records_at, busy_refusal, give_up_refusal, handler_refusal, handler_run, has_no_credit, is_over_share, map_refusal}
use Rattle.am_model.specs.Calls.{new_request, outcome_of_call, poll, poll_received, poll_requests, request_message, request_refusal, shares, sum_after, unless}
use Rattle.am_model.specs.Calls.{unmap_refusal}
use Rattle.am_model.specs.Changes.{after, answer_ran, bound, bounces_of, called, changed, expired, flying_of, kind_run, without_flight, left, noticed, put}
use Rattle.am_model.specs.Changes.{queued, reached, received, request_accepted, request_ran, requeued_flight, returned_flight, is_of, marked, without_waiting}
use Rattle.am_model.specs.Changes.{without_record, with_arrived, with_marked, without_front}
use Rattle.am_model.specs.History.{is_kind_in_range, judged, settle_by}
use Rattle.am_model.specs.Layout.{IsPoolLawful}
use Rattle.am_model.specs.Allowed.{EndsFlight, MayArrive, MayCarry, are_numbers_in_range, arrival_verdict, arrived_message, tries_used_up, is_carry_from}
use Rattle.am_model.specs.Valid.{FitsPool, is_handler_in_range, is_own, is_own_flight, is_own_notice, is_received_here}
use Rattle.am_model.proofs.Matches.{AreMatched, matched_front, matched_more, matched_put, matched_ran, matched_waiting}
use Rattle.am_model.proofs.Names.{same_end-refl}
use Rattle.am_model.proofs.Sound.{all_dropped, all_found, all_push, all_set, all_without, verdict_accepts}
use Rattle.am_model.proofs.Validity.{OwnMessages, OwnRecords, own_accepted, own_bounced, own_formed, own_front, own_new, own_queued, records_arrived}
use Rattle.am_model.proofs.Validity.{records_counted, records_mapped, records_more, records_off, records_same, records_without}

-- the parts of a valid body, but for its table

pub record HandlersKept (handlers : List (Option HandlerKind)) : Type 0 where
  pub slots : length handlers ≡ 16
  pub zero_unset : entry_at handlers 0 ≡ None
  pub kinds : list_all is_handler_in_range handlers ≡ true

pub record Parts (e : EndpointId) (pool : Option ℕ) (b : Body) : Type 0 where
  pub handlers : HandlersKept b.handlers
  pub records : OwnRecords e pool b
  pub messages : OwnMessages e b
  pub received : list_all (is_received_here e) b.received ≡ true
  pub matched : AreMatched b.received b.awaited

-- conditions that all fail

abbrev pub AllFail : {X : Type 0} → List (Bool × X) → Type 0
AllFail [] = Unit {0}
AllFail (c ∷ cs) = (c.0 ≡ false) × AllFail cs

pub fails : {X : Type 0} (cs : List (Bool × X)) → first_holding cs ≡ None → AllFail cs
fails [] h = tt
fails (c ∷ cs) h = by_test c cs c.0 refl h (fails cs)
  where
    by_test : {X : Type 0} (c : Bool × X) (cs : List (Bool × X)) (b : Bool) → c.0 ≡ b → (if b then Some c.1 else first_holding cs) ≡ None →
        (first_holding cs ≡ None → AllFail cs) → (c.0 ≡ false) × AllFail cs
    by_test c cs true is h more = absurd (cc)
    by_test c cs false is h more = (is, more h)

-- calls

requested_parts : (pool : Option ℕ) (e : EndpointId) (s : State) (index handler : ℕ) (words : Words) (mapping : Mapping) → index < 16 →
    entry_at s.body.mapped index ≡ Some mapping → has_no_credit pool s.body index (Some mapping) ≡ false → Parts e pool s.body →
    Parts e pool (request_accepted index (request_message e s mapping handler words) s).body
requested_parts pool e s index handler words mapping lt at credit p =
    let m = request_message e s mapping handler words in
    let made = record s.body {
      accepted = s.body.accepted + 1;
      awaited = s.body.awaited ++ record {
        index = index;
        serial = m.serial;
        arrived = false;
      } ∷ [];
    } in
    let own = own_accepted e s.body p.messages in
    record {
      handlers = p.handlers;
      records = records_same e pool (queued m 0 made) made refl refl refl (records_more e pool index mapping m.serial s.body (same_end-refl e) refl lt at credit
          p.records);
      messages =
          own_queued e m 0 made (own_new e s.body.accepted m (same_end-refl e) refl refl)
          (record { requests = own.requests; replies = own.replies; in_flight = own.in_flight; notices = own.notices });
      received = p.received;
      matched = matched_more index m.serial s.body.received s.body.awaited p.matched;
    }

request_fails : (pool : Option ℕ) (s : State) (index : ℕ) → request_refusal pool s index ≡ None →
    (nat_le 16 index ≡ false) × (has_no_credit pool s.body index (entry_at s.body.mapped index) ≡ false)
request_fails pool s index h =
    let all =
    fails
    ((s.head.closed, No.Closed)
    ∷ (s.body.tag.0 == 0, No.OwnTagNone)
    ∷ (nat_le 16 index, No.BadIndex)
    ∷ (is_none (entry_at s.body.mapped index), No.NotMapped)
    ∷ (has_no_credit pool s.body index (entry_at s.body.mapped index), No.NoCredit)
    ∷ (nat_le 32 (length s.body.awaited), No.TableFull)
    ∷ (nat_le 16 (requests_held s.body), No.SendFull)
    ∷ [])
    h in
    (all.1.1.0, all.1.1.1.1.0)

request_parts : (pool : Option ℕ) (e : EndpointId) (s : State) (index handler : ℕ) (words : Words) (r : Option Refusal) (f : Option Mapping) →
    request_refusal pool s index ≡ r → entry_at s.body.mapped index ≡ f → Parts e pool s.body →
    Parts e pool (called s (Calls.Request index handler words) (unless r (new_request e s f handler words))).body
request_parts pool e s index handler words (Some refusal) f is at p = p
request_parts pool e s index handler words None None is at p = p
request_parts pool e s index handler words None (Some mapping) is at p =
    let h = request_fails pool s index is in
    requested_parts pool e s index handler words mapping (leb-false 16 index h.0) at (sym (ap (has_no_credit pool s.body index) at) ∙ h.1) p

reply_new : (e : EndpointId) (s : State) (m : Message) (kind : Option HandlerKind) → is_own e (s.body.accepted + 1) (answer e s m kind) 0 ≡ true
reply_new e s m (Some (Echo to)) = own_new e s.body.accepted (answer e s m (Some (Echo to))) (same_end-refl e) refl refl
reply_new e s m (Some (Add to)) = own_new e s.body.accepted (answer e s m (Some (Add to))) (same_end-refl e) refl refl
reply_new e s m (Some Note) = own_new e s.body.accepted (answer e s m (Some Note)) (same_end-refl e) refl refl
reply_new e s m None = own_new e s.body.accepted (answer e s m None) (same_end-refl e) refl refl

notice_parts : (pool : Option ℕ) (e : EndpointId) (b : Body) → Parts e pool b → Parts e pool (record b { notices = drop 1 b.notices })
notice_parts pool e b p =
    record {
      handlers = p.handlers;
      records = records_same e pool (record b { notices = drop 1 b.notices }) b refl refl refl p.records;
      messages =
          record {
            requests = p.messages.requests;
            replies = p.messages.replies;
            in_flight = p.messages.in_flight;
            notices = all_dropped (is_own_notice e b.accepted) b.notices p.messages.notices;
          };
      received = p.received;
      matched = p.matched;
    }

settled_records : (pool : Option ℕ) (e : EndpointId) (about : Option Serial) (b : Body) → OwnRecords e pool b →
    OwnRecords e pool (record b { awaited = without_record about b.awaited })
settled_records pool e None b own = records_same e pool (record b { awaited = b.awaited }) b refl refl refl own
settled_records pool e (Some r) b own = records_without e pool (is_of r) b own

received_formed : (e : EndpointId) (m : Message) → is_received_here e m ≡ true → is_well_formed m ≡ true
received_formed e m h = (and_parts (same_end e m.dest) (is_well_formed m) h).1

answer_parts : (pool : Option ℕ) (e : EndpointId) (m : Message) (handler : Option ℕ) (b : Body) → find is_reply b.received ≡ Some m → Parts e pool b →
    Parts e pool (answer_ran m handler b)
answer_parts pool e m handler b found p =
    record {
      handlers = p.handlers;
      records = records_same e pool (answer_ran m handler b) (record b { awaited = without_record m.about b.awaited }) refl refl refl
          (settled_records pool e m.about b p.records);
      messages = record { requests = p.messages.requests; replies = p.messages.replies; in_flight = p.messages.in_flight; notices = p.messages.notices };
      received = all_without (is_received_here e) is_reply b.received p.received;
      matched = matched_ran b.accepted m b.received b.awaited found (received_formed e m
          (all_found (is_received_here e) is_reply b.received m p.received found)) p.records.counts p.matched;
    }

request_ran_parts : (pool : Option ℕ) (e : EndpointId) (s : State) (m : Message) (ms : List Message) (handler : Option ℕ) (kind : Option HandlerKind) →
    s.body.received ≡ m ∷ ms → find is_reply s.body.received ≡ None → Parts e pool s.body → Parts e pool (request_ran m handler (answer e s m kind) s.body)
request_ran_parts pool e s m ms handler kind at none p =
    let b = s.body in
    let made = record b { accepted = b.accepted + 1; received = drop 1 b.received; sum = sum_after (kind_run b.handlers handler) m.words b.sum } in
    let own = own_accepted e b p.messages in
    record {
      handlers = p.handlers;
      records = records_same e pool (request_ran m handler (answer e s m kind) b) (record b { accepted = b.accepted + 1 }) refl refl refl
          (records_counted e pool b p.records);
      messages = own_queued e (answer e s m kind) 0 made (reply_new e s m kind) (record {
        requests = own.requests;
        replies = own.replies;
        in_flight = own.in_flight;
        notices = own.notices;
      });
      received = all_dropped (is_received_here e) b.received p.received;
      matched = matched_front m ms b.received b.awaited at none p.matched;
    }

poll_parts : (pool : Option ℕ) (e : EndpointId) (s : State) → Parts e pool s.body → (notices : List Notice) →
    Parts e pool (called s Calls.Poll (poll e s notices)).body
poll_parts pool e s p (notice ∷ notices) = notice_parts pool e s.body p
poll_parts pool e s p [] = by_found (find is_reply s.body.received) refl
  where
    by_full : (m : Message) (ms : List Message) (full : Bool) → s.body.received ≡ m ∷ ms → find is_reply s.body.received ≡ None →
        Parts e pool (called s Calls.Poll (if full then Out.Blocked else Out.Ran (Some m.handler) m
        (Some (answer e s m (entry_at s.body.handlers m.handler))))).body
    by_full m ms true at none = p
    by_full m ms false at none = request_ran_parts pool e s m ms (Some m.handler) (entry_at s.body.handlers m.handler) at none p

    by_list : (xs : List Message) → s.body.received ≡ xs → find is_reply s.body.received ≡ None → Parts e pool (called s Calls.Poll (poll_requests e s xs)).body
    by_list [] at none = p
    by_list (m ∷ ms) at none = by_full m ms (nat_le 16 (replies_held s.body)) at none

    by_found : (f : Option Message) → find is_reply s.body.received ≡ f → Parts e pool (called s Calls.Poll (poll_received e s f)).body
    by_found (Some m) is = answer_parts pool e m (handler_run s m) s.body is p
    by_found None is = by_list s.body.received refl is

map_fails : (pool : Option ℕ) (s : State) (index share : ℕ) → map_refusal pool s index share ≡ None →
    (nat_le 16 index ≡ false) × (is_some (entry_at s.body.mapped index) ≡ false) × (is_over_share pool s.body share ≡ false)
map_fails pool s index share h =
    let all =
    fails
    ((s.head.closed, No.Closed)
    ∷ (nat_le 16 index, No.BadIndex)
    ∷ (is_some (entry_at s.body.mapped index), No.InUse)
    ∷ (is_over_share pool s.body share, No.OverShare (shares s.body))
    ∷ [])
    h in
    (all.1.0, all.1.1.0, all.1.1.1.0)

map_parts : (pool : Option ℕ) (e : EndpointId) (s : State) (index : ℕ) (m : Mapping) (r : Option Refusal) → length s.body.mapped ≡ 16 →
    map_refusal pool s index m.credits ≡ r → Parts e pool s.body → Parts e pool (called s (Calls.Map index m.name m.tag m.credits) (unless r Out.Done)).body
map_parts pool e s index m (Some refusal) slots is p = p
map_parts pool e s index m None slots is p =
    let h = map_fails pool s index m.credits is in
    record {
      handlers = p.handlers;
      records = records_mapped e pool index m s.body (omega (arith, slots, leb-false 16 index h.0)) (not_some-None (entry_at s.body.mapped index) h.1) h.2
          p.records;
      messages = record { requests = p.messages.requests; replies = p.messages.replies; in_flight = p.messages.in_flight; notices = p.messages.notices };
      received = p.received;
      matched = p.matched;
    }

unmap_fails : (s : State) (index : ℕ) → unmap_refusal s index ≡ None → (nat_le 16 index ≡ false) × (records_at s.body index ≡ 0)
unmap_fails s index h =
    let all =
    fails
    ((s.head.closed, No.Closed)
    ∷ (nat_le 16 index, No.BadIndex)
    ∷ (is_none (entry_at s.body.mapped index), No.NotMapped)
    ∷ (not (records_at s.body index == 0), No.Outstanding (records_at s.body index))
    ∷ [])
    h in
    (all.1.0, zero_of (records_at s.body index) all.1.1.1.0)
  where
    zero_of : (n : ℕ) → not (n == 0) ≡ false → n ≡ 0
    zero_of n h = by_test (n == 0) refl h
      where
        by_test : (b : Bool) → (n == 0) ≡ b → not b ≡ false → n ≡ 0
        by_test true is t = eqb-true n 0 is
        by_test false is t = absurd (true≢false t)

unmap_parts : (pool : Option ℕ) (e : EndpointId) (s : State) (index : ℕ) (r : Option Refusal) → length s.body.mapped ≡ 16 → unmap_refusal s index ≡ r →
    Parts e pool s.body → Parts e pool (called s (Calls.Unmap index) (unless r Out.Done)).body
unmap_parts pool e s index (Some refusal) slots is p = p
unmap_parts pool e s index None slots is p =
    let h = unmap_fails s index is in
    record {
      handlers = p.handlers;
      records = records_off e pool index s.body (omega (arith, slots, leb-false 16 index h.0)) h.1 p.records;
      messages = record { requests = p.messages.requests; replies = p.messages.replies; in_flight = p.messages.in_flight; notices = p.messages.notices };
      received = p.received;
      matched = p.matched;
    }

handler_parts : (pool : Option ℕ) (e : EndpointId) (s : State) (index : ℕ) (kind : HandlerKind) (r : Option Refusal) → is_kind_in_range kind ≡ true →
    handler_refusal s index ≡ r → Parts e pool s.body → Parts e pool (called s (Calls.SetHandler index kind) (unless r Out.Done)).body
handler_parts pool e s index kind (Some refusal) range is p = p
handler_parts pool e s index kind None range is p =
    let all = fails ((s.head.closed, No.Closed) ∷ (nat_le 16 index, No.BadIndex) ∷ (index == 0, No.Reserved) ∷ []) is in
    record {
      handlers =
          record {
            slots = length-set s.body.handlers index (Some kind) ∙ p.handlers.slots;
            zero_unset = get_or-set_other s.body.handlers index 0 (Some kind) None (λ (h : 0 ≡ index). eqb-false index 0 all.1.1.0 (sym h))
                ∙ p.handlers.zero_unset;
            kinds = all_set is_handler_in_range s.body.handlers index (Some kind) range p.handlers.kinds;
          };
      records = records_same e pool (record s.body { handlers = slice_set s.body.handlers index (Some kind) }) s.body refl refl refl p.records;
      messages = record { requests = p.messages.requests; replies = p.messages.replies; in_flight = p.messages.in_flight; notices = p.messages.notices };
      received = p.received;
      matched = p.matched;
    }

tag_parts : (pool : Option ℕ) (e : EndpointId) (s : State) (tag : Tag) (r : Option Refusal) → Parts e pool s.body →
    Parts e pool (called s (Calls.SetTag tag) (unless r Out.Done)).body
tag_parts pool e s tag (Some refusal) p = p
tag_parts pool e s tag None p =
    record {
      handlers = p.handlers;
      records = records_same e pool (record s.body { tag = tag }) s.body refl refl refl p.records;
      messages = record { requests = p.messages.requests; replies = p.messages.replies; in_flight = p.messages.in_flight; notices = p.messages.notices };
      received = p.received;
      matched = p.matched;
    }

close_parts : (pool : Option ℕ) (e : EndpointId) (s : State) (r : Option Refusal) → Parts e pool s.body →
    Parts e pool (called s Calls.Close (unless r Out.Done)).body
close_parts pool e s (Some refusal) p = p
close_parts pool e s None p = p

-- a waiting record goes
waiting_parts : (pool : Option ℕ) (e : EndpointId) (serial : Serial) (b : Body) → Parts e pool b →
    Parts e pool (record b { awaited = without_waiting serial b.awaited })
waiting_parts pool e serial b p =
    record {
      handlers = p.handlers;
      records = records_without e pool (waits_for serial) b p.records;
      messages = record { requests = p.messages.requests; replies = p.messages.replies; in_flight = p.messages.in_flight; notices = p.messages.notices };
      received = p.received;
      matched = matched_waiting serial b.received b.awaited p.matched;
    }

give_up_parts : (pool : Option ℕ) (e : EndpointId) (s : State) (serial : Serial) (r : Option Refusal) → Parts e pool s.body →
    Parts e pool (called s (Calls.GiveUp serial) (unless r Out.Done)).body
give_up_parts pool e s serial (Some refusal) p = p
give_up_parts pool e s serial None p = waiting_parts pool e serial s.body p

tested_parts : (pool : Option ℕ) (e : EndpointId) (s : State) (mask : Mask) (o : Outcome) → Parts e pool s.body →
    Parts e pool (called s (Calls.Test mask) o).body
tested_parts pool e s mask o p = p

-- a call keeps the body valid
pub called_parts : (pool : Option ℕ) (e : EndpointId) (s : State) (c : Call) → are_numbers_in_range pool c ≡ true → length s.body.mapped ≡ 16 →
    Parts e pool s.body → Parts e pool (called s c (outcome_of_call pool e s c)).body
called_parts pool e s (Calls.Request index handler words) range slots p =
    request_parts pool e s index handler words (request_refusal pool s index) (entry_at s.body.mapped index) refl refl p
called_parts pool e s Calls.Poll range slots p = poll_parts pool e s p s.body.notices
called_parts pool e s (Calls.SetTag tag) range slots p = tag_parts pool e s tag (busy_refusal s) p
called_parts pool e s (Calls.Map index name tag credits) range slots p = map_parts pool e s index (record {
  name = name;
  tag = tag;
  credits = credits;
}) (map_refusal pool s index credits) slots refl p
called_parts pool e s (Calls.Unmap index) range slots p = unmap_parts pool e s index (unmap_refusal s index) slots refl p
called_parts pool e s (Calls.SetHandler index kind) range slots p = handler_parts pool e s index kind (handler_refusal s index) range refl p
called_parts pool e s (Calls.GiveUp serial) range slots p = give_up_parts pool e s serial (give_up_refusal s serial) p
called_parts pool e s Calls.Close range slots p = close_parts pool e s (busy_refusal s) p
called_parts pool e s (Calls.Test mask) range slots p = tested_parts pool e s mask (outcome_of_call pool e s (Calls.Test mask)) p

-- a fresh body is valid
pub fresh_parts : (pool : Option ℕ) (e : EndpointId) (tag : Tag) (place : Place) → IsPoolLawful pool → Parts e pool (fresh tag place).body
fresh_parts pool e tag place lawful =
    record {
      handlers = record { slots = refl; zero_unset = refl; kinds = refl };
      records = record { counts = refl; records = refl; credits = by_pool pool lawful };
      messages = record { requests = refl; replies = refl; in_flight = refl; notices = refl };
      received = refl;
      matched = record { each = λ r. refl; all = refl };
    }
  where
    by_pool : (pool : Option ℕ) → IsPoolLawful pool → FitsPool pool (fresh tag place).body
    by_pool None lawful = refl
    by_pool (Some n) lawful = (omega arith, omega (arith, lawful))

-- arrivals

put_parts : (pool : Option ℕ) (e : EndpointId) (m : Message) (s : State) → verdict s m ≡ Verdicts.Accepted → same_end e m.dest ≡ true →
    is_well_formed m ≡ true → Parts e pool s.body → Parts e pool (put m s).body
put_parts pool e m s accepts here formed p =
    let b = s.body in
    record {
      handlers = p.handlers;
      records = records_same e pool (put m s).body (record b { awaited = with_arrived m.about b.awaited }) refl refl refl
          (records_arrived e pool m.about b p.records);
      messages =
          record {
            requests = p.messages.requests;
            replies = p.messages.replies;
            in_flight = marked_own m.about b.in_flight p.messages.in_flight;
            notices = p.messages.notices;
          };
      received = all_push (is_received_here e) b.received m p.received (and_from (same_end e m.dest) (is_well_formed m) here formed);
      matched = matched_put b.accepted m b.received b.awaited formed (verdict_accepts s m accepts).1 p.records.counts p.matched;
    }
  where
    marked_own : (about : Option Serial) (fs : List Flying) → list_all (is_own_flight e s.body.accepted) fs ≡ true →
        list_all (is_own_flight e s.body.accepted) (with_marked about fs) ≡ true
    marked_own None fs all = all
    marked_own (Some r) fs all = list_all-map (is_own_flight e s.body.accepted) (marked r) fs ∙ all

arrival_parts : (pool : Option ℕ) (e : EndpointId) (s : State) (m : Message) (event : Event) (o : Outcome) → arrived_message event o ≡ Some m →
    arrival_verdict event o ≡ Some (verdict s m) → same_end e m.dest ≡ true → is_well_formed m ≡ true → is_carry_from e event ≡ false → Parts e pool s.body →
    Parts e pool (changed e s event o).body
arrival_parts pool e s m (Events.Carry from) (Out.Accepted n) is judged here formed other p =
    let same : n ≡ m = cc in
    let accepts : verdict s m ≡ Verdicts.Accepted = cc in
    let there : same_end e n.dest ≡ true = ap (λ (w : Message). same_end e w.dest) same ∙ here in
    rw (other, there) (put_parts pool e n s (ap (verdict s) same ∙ accepts) there (ap is_well_formed same ∙ formed) p)
arrival_parts pool e s m (Events.Carry from) (Out.Requeued n cause bounces) is judged here formed other p = rw other p
arrival_parts pool e s m (Events.Carry from) (Out.Returned n cause) is judged here formed other p = rw other p
arrival_parts pool e s m (Events.Receive node peer number) (Out.Received channel seq attempt (Got.Accepted n answer)) is judged here formed other p =
    let same : n ≡ m = cc in
    let accepts : verdict s m ≡ Verdicts.Accepted = cc in
    put_parts pool e n s (ap (verdict s) same ∙ accepts) (ap (λ (w : Message). same_end e w.dest) same ∙ here) (ap is_well_formed same ∙ formed) p
arrival_parts pool e s m (Events.Receive node peer number) (Out.Received channel seq attempt (Got.Refused n Causes.NotResident answer)) is judged here formed
    other p = p
arrival_parts pool e s m (Events.Receive node peer number) (Out.Received channel seq attempt (Got.Refused n cause answer)) is judged here formed other p = p
arrival_parts pool e s m event o is judged here formed other p = absurd (cc)

-- an arrival keeps the body valid
pub arrived_parts : (pool : Option ℕ) (e : EndpointId) (s : State) (x : Entry) → MayArrive e s x → Parts e pool s.body → Parts e pool (after e s x).body
arrived_parts pool e s x may p = arrival_parts pool e s may.message x.event x.outcome may.is_message may.judged may.here may.formed may.elsewhere p

-- the front message leaves

pub front_bounces : (replies requests : List Queued) (q : Queued) → front_of replies requests ≡ Some q → bounces_of replies requests ≡ q.bounces
front_bounces (r ∷ replies) requests q is = let same : r ≡ q = cc in ap (λ (w : Queued). w.bounces) same
front_bounces [] (r ∷ requests) q is = let same : r ≡ q = cc in ap (λ (w : Queued). w.bounces) same
front_bounces [] [] q is = absurd (cc)

gone_parts : (pool : Option ℕ) (e : EndpointId) (b : Body) (q : Queued) → front_of b.replies b.requests ≡ Some q → Parts e pool b →
    Parts e pool (without_front b)
gone_parts pool e b q is p =
    record {
      handlers = p.handlers;
      records = records_same e pool (without_front b) b refl refl refl p.records;
      messages = (own_front e b q is p.messages).rest;
      received = p.received;
      matched = p.matched;
    }

queued_parts : (pool : Option ℕ) (e : EndpointId) (m : Message) (n : ℕ) (b : Body) → is_own e b.accepted m n ≡ true → Parts e pool b →
    Parts e pool (queued m n b)
queued_parts pool e m n b mine p =
    record {
      handlers = p.handlers;
      records = records_same e pool (queued m n b) b refl refl refl p.records;
      messages = own_queued e m n b mine p.messages;
      received = p.received;
      matched = p.matched;
    }

noticed_parts : (pool : Option ℕ) (e : EndpointId) (m : Message) (n : ℕ) (why : Why) (b : Body) → is_own e b.accepted m n ≡ true → Parts e pool b →
    Parts e pool (noticed m n why b)
noticed_parts pool e m n why b mine p =
    let w = waiting_parts pool e m.serial b p in
    record {
      handlers = p.handlers;
      records = records_same e pool (noticed m n why b) (record b { awaited = without_waiting m.serial b.awaited }) refl refl refl w.records;
      messages =
          record {
            requests = p.messages.requests;
            replies = p.messages.replies;
            in_flight = p.messages.in_flight;
            notices = all_push (is_own_notice e b.accepted) b.notices (record { message = m; bounces = n; why = why }) p.messages.notices mine;
          };
      received = p.received;
      matched = w.matched;
    }

bounce_fits : (cause : Cause) (bounces limit : ℕ) → limit ≤ 16 → (is_transient cause && nat_lt bounces limit) ≡ true → bounces + 1 ≤ 16
bounce_fits cause bounces limit le h = omega (arith, le, ltb-true bounces limit (and_parts (is_transient cause) (nat_lt bounces limit) h).1)

judged_parts : (pool : Option ℕ) (e : EndpointId) (s : State) (q : Queued) (limit : ℕ) (v : Verdict) → limit ≤ 16 → front s ≡ Some q →
    (same_end e q.message.dest ≡ true → v ≡ verdict s q.message) → Parts e pool s.body →
    Parts e pool (reached e (left s (judged limit q.message q.bounces v)) (judged limit q.message q.bounces v)).body
judged_parts pool e s q limit Verdicts.Accepted le is here p = by_end (same_end e q.message.dest) refl
  where
    formed_front : is_well_formed q.message ≡ true
    formed_front = own_formed e s.body.accepted q.message q.bounces (own_front e s.body q is p.messages).front

    by_end : (b : Bool) → same_end e q.message.dest ≡ b → Parts e pool (if b then put q.message (left s (Out.Accepted q.message)) else left s
        (Out.Accepted q.message)).body
    by_end true same = put_parts pool e q.message (left s (Out.Accepted q.message)) (sym (here same)) same formed_front (gone_parts pool e s.body q is p)
    by_end false same = gone_parts pool e s.body q is p
judged_parts pool e s q limit (Verdicts.Refused cause) le is here p = by_again (is_transient cause && nat_lt q.bounces limit) refl
  where
    gone : Parts e pool (without_front s.body)
    gone = gone_parts pool e s.body q is p

    own : is_own e s.body.accepted q.message q.bounces ≡ true
    own = (own_front e s.body q is p.messages).front

    by_again : (b : Bool) → (is_transient cause && nat_lt q.bounces limit) ≡ b →
        let o = if b then Out.Requeued q.message cause (q.bounces + 1) else Out.Returned q.message cause in Parts e pool (reached e (left s o) o).body
    by_again true again = queued_parts pool e q.message (q.bounces + 1) (without_front s.body)
        (own_bounced e s.body.accepted q.message q.bounces (q.bounces + 1) (bounce_fits cause q.bounces limit le again) own) gone
    by_again false again =
        noticed_parts pool e q.message (bounces_of s.body.replies s.body.requests) (Whys.Refused cause) (without_front s.body)
        (ap (is_own e s.body.accepted q.message) (front_bounces s.body.replies s.body.requests q is) ∙ own)
        gone

-- a carry from here keeps the body valid
pub carried_parts : (pool : Option ℕ) (limit : ℕ) (e : EndpointId) (s : State) (x : Entry) → limit ≤ 16 → MayCarry limit e s x → Parts e pool s.body →
    Parts e pool (after e s x).body
carried_parts pool limit e s x le may p =
    rw (may.event, may.outcome, same_end-refl e) (judged_parts pool e s may.queued limit may.verdict_there le may.is_front may.here p)

-- a bind keeps the body valid
pub bound_parts : (pool : Option ℕ) (e : EndpointId) (s : State) (q : Queued) (peer : NodeId) (channel seq attempt number : ℕ) → front s ≡ Some q →
    Parts e pool s.body → Parts e pool (bound s (Out.Sent q.message peer channel seq attempt number)).body
bound_parts pool e s q peer channel seq attempt number is p =
    let b = s.body in
    let own = own_front e b q is p.messages in
    let flight : Flying = record { message = q.message; bounces = bounces_of b.replies b.requests; answered = false } in
    record {
      handlers = p.handlers;
      records = records_same e pool (bound s (Out.Sent q.message peer channel seq attempt number)).body b refl refl refl p.records;
      messages =
          record {
            requests = own.rest.requests;
            replies = own.rest.replies;
            in_flight = all_push (is_own_flight e b.accepted) b.in_flight flight own.rest.in_flight
                (ap (is_own e b.accepted q.message) (front_bounces b.replies b.requests q is) ∙ own.front);
            notices = own.rest.notices;
          };
      received = p.received;
      matched = p.matched;
    }

-- flights end

landed_parts : (pool : Option ℕ) (e : EndpointId) (serial : Serial) (b : Body) → Parts e pool b → Parts e pool (without_flight serial b)
landed_parts pool e serial b p =
    record {
      handlers = p.handlers;
      records = records_same e pool (without_flight serial b) b refl refl refl p.records;
      messages =
          record {
            requests = p.messages.requests;
            replies = p.messages.replies;
            in_flight = all_without (is_own_flight e b.accepted) (λ (f : Flying). has_serial serial f.message) b.in_flight p.messages.in_flight;
            notices = p.messages.notices;
          };
      received = p.received;
      matched = p.matched;
    }

returned_parts : (pool : Option ℕ) (e : EndpointId) (serial : Serial) (why : Why) (b : Body) (flight : Option Flying) → flying_of serial b.in_flight ≡ flight →
    Parts e pool b → Parts e pool (returned_flight serial flight why (without_flight serial b))
returned_parts pool e serial why b None is p =
    let lands = landed_parts pool e serial b p in
    let w = waiting_parts pool e serial (without_flight serial b) lands in
    record {
      handlers = p.handlers;
      records = records_same e pool (returned_flight serial None why (without_flight serial b))
          (record (without_flight serial b) { awaited = without_waiting serial b.awaited }) refl refl refl w.records;
      messages =
          record {
            requests = p.messages.requests;
            replies = p.messages.replies;
            in_flight = lands.messages.in_flight;
            notices = ap (list_all (is_own_notice e b.accepted)) (append-nil b.notices) ∙ p.messages.notices;
          };
      received = p.received;
      matched = w.matched;
    }
returned_parts pool e serial why b (Some f) is p =
    let lands = landed_parts pool e serial b p in
    let w = waiting_parts pool e serial (without_flight serial b) lands in
    let own : is_own_flight e b.accepted f ≡ true = all_found (is_own_flight e b.accepted) (λ (g : Flying). has_serial serial g.message) b.in_flight f
    p.messages.in_flight is in
    record {
      handlers = p.handlers;
      records = records_same e pool (returned_flight serial (Some f) why (without_flight serial b))
          (record (without_flight serial b) { awaited = without_waiting serial b.awaited }) refl refl refl w.records;
      messages =
          record {
            requests = p.messages.requests;
            replies = p.messages.replies;
            in_flight = lands.messages.in_flight;
            notices = all_push (is_own_notice e b.accepted) b.notices (record { message = f.message; bounces = f.bounces; why = why }) p.messages.notices own;
          };
      received = p.received;
      matched = w.matched;
    }

settled_parts : (pool : Option ℕ) (limit : ℕ) (e : EndpointId) (s : State) (f : Flying) (v : Verdict) → limit ≤ 16 →
    flying_of f.message.serial s.body.in_flight ≡ Some f → Parts e pool s.body → Parts e pool (received e s (settle_by limit f.message f.bounces v)).body
settled_parts pool limit e s f Verdicts.Accepted le is p = landed_parts pool e f.message.serial s.body p
settled_parts pool limit e s f (Verdicts.Refused cause) le is p = by_again (is_transient cause && nat_lt f.bounces limit) refl
  where
    lands : Parts e pool (without_flight f.message.serial s.body)
    lands = landed_parts pool e f.message.serial s.body p

    own : is_own_flight e s.body.accepted f ≡ true
    own = all_found (is_own_flight e s.body.accepted) (λ (g : Flying). has_serial f.message.serial g.message) s.body.in_flight f p.messages.in_flight is

    by_again : (b : Bool) → (is_transient cause && nat_lt f.bounces limit) ≡ b →
        Parts e pool (received e s (if b then Got.Requeued f.message.serial cause (f.bounces + 1) else Got.Returned f.message.serial cause)).body
    by_again true again =
        subst (λ (w : Option Flying). Parts e pool (requeued_flight w (f.bounces + 1) (without_flight f.message.serial s.body))) (sym is)
        (queued_parts pool e f.message (f.bounces + 1) (without_flight f.message.serial s.body)
        (own_bounced e s.body.accepted f.message f.bounces (f.bounces + 1) (bounce_fits cause f.bounces limit le again) own) lands)
    by_again false again = returned_parts pool e f.message.serial (Whys.Refused cause) s.body (flying_of f.message.serial s.body.in_flight) refl p

given_up_parts : (pool : Option ℕ) (e : EndpointId) (s : State) (f : Flying) → Parts e pool s.body → Parts e pool (expired s (tries_used_up f)).body
given_up_parts pool e s f p = by_test f.answered
  where
    by_test : (b : Bool) → Parts e pool (expired s (if b then Out.Delivered f.message.serial else Out.Unknown f.message.serial)).body
    by_test true = landed_parts pool e f.message.serial s.body p
    by_test false = returned_parts pool e f.message.serial Whys.Unknown s.body (flying_of f.message.serial s.body.in_flight) refl p

-- what ends a flight keeps the body valid
pub flight_parts : (pool : Option ℕ) (limit : ℕ) (e : EndpointId) (s : State) (f : Flying) (event : Event) (o : Outcome) → limit ≤ 16 →
    flying_of f.message.serial s.body.in_flight ≡ Some f → EndsFlight limit f event o → Parts e pool s.body → Parts e pool (changed e s event o).body
flight_parts pool limit e s f (Events.Receive node peer number) (Out.Received channel seq attempt result) le is ends p =
    subst (λ (r : Received). Parts e pool (received e s r).body) (sym ends.1) (settled_parts pool limit e s f ends.0 le is p)
flight_parts pool limit e s f (Events.Expire node peer channel) o le is ends p =
    subst (λ (w : Outcome). Parts e pool (expired s w).body) (sym ends) (given_up_parts pool e s f p)
flight_parts pool limit e s f event o le is ends p = absurd ends
