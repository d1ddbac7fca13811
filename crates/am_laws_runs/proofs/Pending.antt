-- At rest no accepted message is pending.
use Rattle.std.specs.Prelude.{◌==◌, ◌≢◌, count_by, filter_map, slice_get}
use Rattle.std.proofs.Common.{◌≡◌, ℕ, zero, suc, ◌+◌, ◌≤◌, Bool, true, false, cond, ◌||◌, List, [], ◌∷◌, map, length, Option, Some, None, refl, sym, ap, ◌∙◌}
use Rattle.std.proofs.Common.{subst, arith, true≢false, eqb-true, if◌then◌else◌}
use Rattle.std.proofs.lemmas.Bool.{and_parts}
use Rattle.std.proofs.lemmas.List.Sums.{sum_by-cons}
use Rattle.std.specs.List.{list_any, list_all, cons_option}
use Rattle.am_lemmas.proofs.Lists.{count_by-none, count_by-empty}
use Rattle.am_names.specs.declared.EndpointId.{EndpointId}
use Rattle.am_names.specs.declared.Serial.{Serial}
use Rattle.am_names.specs.declared.Cause.{Cause}
use Rattle.am_names.specs.declared.Message.{Message}
use Rattle.am_names.specs.Names.{same_end, same_serial, has_serial}
use Rattle.am_office_entries.specs.declared.Event.{Event}
use Rattle.am_office_entries.specs.declared.Event.TheVariants as Events
use Rattle.am_office_entries.specs.declared.Received.{Received}
use Rattle.am_office_entries.specs.declared.Received.TheVariants as Got
use Rattle.am_office_entries.specs.declared.Outcome.{Outcome}
use Rattle.am_office_entries.specs.declared.Outcome.TheVariants as Out
use Rattle.am_office_entries.specs.declared.Entry.{Entry}
use Rattle.am_office_entries.specs.declared.endings.Fate.TheVariants as Fates
use Rattle.am_office_entries.specs.Entries.{put_of, run_of, returned_in, returned_of, unknown_of, passes, is_serial}
use Rattle.am_office_entries.specs.Fates.{cause_if, cause_of, fate_by, causes_of, is_unknown, is_run, is_accepted, fate_of_accepted}
use Rattle.am_model.specs.declared.Queued.{Queued}
use Rattle.am_model.specs.declared.Flying.{Flying}
use Rattle.am_model.specs.Endpoint.{Body}
use Rattle.am_model.specs.Layout.{Layout, EndSetting, AllAre, has_id, declared}
use Rattle.am_model.specs.History.{IsHistory, state_of}
use Rattle.am_model.specs.PostOffice.{Gave, times, times_serial}
use Rattle.am_model.specs.Cluster.{count_queued, count_flying}
use Rattle.am_model.proofs.Names.{same_end-is, same_serial-is}
use Rattle.am_model.proofs.Received.{bit}
use Rattle.am_model_scripts.specs.Layout.{layout_of}
use Rattle.am_model_scripts.proofs.Lawful.{lawful_layout}
use Rattle.am_laws_cluster.proofs.HomesKept.{messages_addressed}
use Rattle.am_laws.proofs.Delivered.{IsIn, delivers}
use Rattle.am_laws_cluster.proofs.Whole.{cluster_holds}
use Rattle.am_model_scripts.specs.Standings.{messages_in, holds_nothing, standing_in}
use Rattle.am_laws_runs.specs.Drains.Laws.{NonePending}

-- ---- what a fate of Pending says

record Unsettled (journal : List Entry) (s : Serial) : Type 0 where
  pub causes : causes_of journal s ≡ []
  pub unknown : is_unknown journal s ≡ false
  pub ran : is_run journal s ≡ false

by_fate : (journal : List Entry) (s : Serial) (causes : List Cause) (unknown ran : Bool) → causes_of journal s ≡ causes → is_unknown journal s ≡ unknown →
    is_run journal s ≡ ran → fate_by causes unknown ran ≡ Fates.Pending → Unsettled journal s
by_fate journal s (cause ∷ causes) unknown ran c u r h = absurd (cc)
by_fate journal s [] true true c u r h = absurd (cc)
by_fate journal s [] true false c u r h = absurd (cc)
by_fate journal s [] false true c u r h = absurd (cc)
by_fate journal s [] false false c u r h = record { causes = c; unknown = u; ran = r }

by_accepted : (journal : List Entry) (s : Serial) (b : Bool) → (if b then Some (fate_of_accepted journal s) else None) ≡ Some Fates.Pending →
    Unsettled journal s
by_accepted journal s true h =
    let same : fate_of_accepted journal s ≡ Fates.Pending = cc in
    by_fate journal s (causes_of journal s) (is_unknown journal s) (is_run journal s) refl refl refl same
by_accepted journal s false h = absurd (cc)

-- ---- counts of what no entry does

cause_none : (b : Bool) (cause : Cause) → cause_if b cause ≡ None → b ≡ false
cause_none true cause h = absurd (cc)
cause_none false cause h = refl

no_cause : (s : Serial) (event : Event) (o : Outcome) → cause_of s event o ≡ None → is_serial s (returned_in event o) ≡ false
no_cause s (Events.Carry end) (Out.Returned m cause) h = cause_none (same_serial s m.serial) cause h
no_cause s (Events.Receive node peer number) (Out.Received channel seq attempt (Got.Returned serial cause)) h = cause_none (same_serial s serial) cause h
no_cause s event o h = refl

causes_step : (o : Option Cause) (rest : List Cause) → cons_option o rest ≡ [] → (o ≡ None) × (rest ≡ [])
causes_step None rest h = (refl, h)
causes_step (Some cause) rest h = absurd (cc)

none_returned : (s : Serial) (journal : List Entry) → causes_of journal s ≡ [] → times_serial returned_of s journal ≡ 0
none_returned s [] h = refl
none_returned s (x ∷ xs) h =
    let parts = causes_step (cause_of s x.event x.outcome) (causes_of xs s) h in
    let here : bit (is_serial s (returned_of x)) ≡ 0 = ap bit (no_cause s x.event x.outcome parts.0) in
    omega (arith, sum_by-cons (λ (y : Entry). bit (is_serial s (returned_of y))) x xs, here, none_returned s xs parts.1)

-- ---- a message that some entry put

record WasPut (past : List Entry) (s : Serial) : Type 0 where
  pub message : Message
  pub gave : Gave put_of past message
  pub serial : message.serial ≡ s

put_step : (s : Serial) (o : Option Message) (rest : List Entry) → (1 ≤ times put_of (has_serial s) rest → WasPut rest s) →
    1 ≤ cond (passes (has_serial s) o) 1 0 + times put_of (has_serial s) rest →
    (m : Message) × (k : ℕ) × ((slice_get (cons_option o (filter_map put_of rest)) k ≡ Some m) × (m.serial ≡ s))
put_step s None rest more h =
    let r = more (omega (arith, h)) in (r.message, r.gave.0, (r.gave.1, r.serial))
put_step s (Some m) rest more h = by_test (has_serial s m) refl h
  where
    by_test : (b : Bool) → has_serial s m ≡ b → 1 ≤ cond b 1 0 + times put_of (has_serial s) rest →
        (n : Message) × (k : ℕ) × ((slice_get (m ∷ filter_map put_of rest) k ≡ Some n) × (n.serial ≡ s))
    by_test true is low = (m, zero, (refl, sym (same_serial-is s m.serial is)))
    by_test false is low =
        let r = more (omega (arith, low)) in (r.message, suc r.gave.0, (r.gave.1, r.serial))

was_put : (s : Serial) (past : List Entry) → 1 ≤ times put_of (has_serial s) past → WasPut past s
was_put s [] h = absurd (omega (arith, h))
was_put s (x ∷ xs) h =
    let r = put_step s (put_of x) xs (was_put s xs) (omega (arith, h, sum_by-cons (λ (y : Entry). cond (passes (has_serial s) (put_of y)) 1 0) x xs)) in
    record { message = r.0; gave = (r.1, r.2.0); serial = r.2.1 }

-- ---- at rest the lists of a declared endpoint are empty

record Holds (b : Body) : Type 0 where
  pub requests : length b.requests ≡ 0
  pub replies : length b.replies ≡ 0
  pub in_flight : length b.in_flight ≡ 0
  pub received : length b.received ≡ 0

nothing_held : (b : Body) → (messages_in b == 0) ≡ true → Holds b
nothing_held b h =
    let none : messages_in b ≡ 0 = eqb-true (messages_in b) 0 h in
    record { requests = omega (arith, none); replies = omega (arith, none); in_flight = omega (arith, none); received = omega (arith, none) }

rests_step : (layout : Layout) (past : List Entry) (e : EndpointId) (setting : EndSetting) (b more : Bool) → same_end e setting.id ≡ b → (b || more) ≡ true →
    holds_nothing (standing_in layout past setting) ≡ true → (more ≡ true → Holds (state_of layout past e).body) → Holds (state_of layout past e).body
rests_step layout past e setting true more is there here later =
    subst (λ (d : EndpointId). Holds (state_of layout past d).body) (sym (same_end-is e setting.id is))
    (nothing_held (state_of layout past setting.id).body here)
rests_step layout past e setting false more is there here later = later there

rests_at : (layout : Layout) (past : List Entry) (e : EndpointId) (settings : List EndSetting) → list_any (has_id e) settings ≡ true →
    list_all holds_nothing (map (standing_in layout past) settings) ≡ true → Holds (state_of layout past e).body
rests_at layout past e [] there all = absurd (true≢false (sym there))
rests_at layout past e (setting ∷ settings) there all =
    let parts = and_parts (holds_nothing (standing_in layout past setting)) (list_all holds_nothing (map (standing_in layout past) settings)) all in
    rests_step layout past e setting (same_end e setting.id) (list_any (has_id e) settings) refl there parts.0
    (λ more. rests_at layout past e settings more parts.1)

-- an endpoint that has received a message is declared
received_declared : (layout : Layout) (past : List Entry) → IsHistory layout past → (e : EndpointId) (p : Message → Bool) (ms : List Message) →
    AllAre (IsIn past e (state_of layout past e).body.tag) ms → 1 ≤ count_by p ms → declared layout e ≡ true
received_declared layout past h e p [] all low = absurd (omega (arith, low))
received_declared layout past h e p (m ∷ ms) all low =
    subst (λ (d : EndpointId). declared layout d ≡ true) all.0.dest (messages_addressed layout past h m all.0.accepted).dest

pub none_pending : NonePending
none_pending s journal ok h rest m accepted pending =
    let layout : Layout = layout_of s in
    let left = by_accepted journal m.serial (is_accepted journal m.serial) pending in
    let one = (cluster_holds layout journal (lawful_layout s ok) h).live in
    let source = rests_at layout journal m.serial.source layout.ends (messages_addressed layout journal h m accepted).source rest.messages in
    let body : Body = (state_of layout journal m.serial.source).body in
    let queued : count_queued m.serial body ≡ 0 = omega (
      arith,
      count_by-empty (λ (q : Queued). has_serial m.serial q.message) body.requests source.requests,
      count_by-empty (λ (q : Queued). has_serial m.serial q.message) body.replies source.replies,
    ) in
    let flying : count_flying m.serial body ≡ 0 = count_by-empty (λ (f : Flying). has_serial m.serial f.message) body.in_flight source.in_flight in
    let returned = none_returned m.serial journal left.causes in
    let unknown : times_serial unknown_of m.serial journal ≡ 0 = count_by-none (λ (x : Entry). is_serial m.serial (unknown_of x)) journal left.unknown in
    by_put (times put_of (has_serial m.serial) journal) refl (λ none. one.waits m accepted none returned unknown) queued flying
  where
    ran_none : times run_of (has_serial m.serial) journal ≡ 0
    ran_none = count_by-none (λ (x : Entry). passes (has_serial m.serial) (run_of x)) journal
        (by_accepted journal m.serial (is_accepted journal m.serial) pending).ran

    put_nowhere : 1 ≤ times put_of (has_serial m.serial) journal → ⊥
    put_nowhere low =
        let layout : Layout = layout_of s in
        let put = was_put m.serial journal low in
        let d : EndpointId = put.message.dest in
        let one = (cluster_holds layout journal (lawful_layout s ok) h).live in
        let count = one.put put.message put.gave in
        let ran : times run_of (has_serial put.message.serial) journal ≡ 0 = ap (λ (t : Serial). times run_of (has_serial t) journal) put.serial ∙ ran_none in
        let some : 1 ≤ count_by (has_serial put.message.serial) (state_of layout journal d).body.received = omega (arith, count, ran) in
        let there = received_declared layout journal h d (has_serial put.message.serial) (state_of layout journal d).body.received
        ((delivers layout journal h).received d) some in
        let empty = rests_at layout journal d layout.ends there rest.messages in
        omega (arith, some, count_by-empty (has_serial put.message.serial) (state_of layout journal d).body.received empty.received)

    by_put : (n : ℕ) → times put_of (has_serial m.serial) journal ≡ n → (times put_of (has_serial m.serial) journal ≡ 0 →
        count_queued m.serial (state_of (layout_of s) journal m.serial.source).body + count_flying m.serial
        (state_of (layout_of s) journal m.serial.source).body ≡ 1) → count_queued m.serial (state_of (layout_of s) journal m.serial.source).body ≡ 0 →
        count_flying m.serial (state_of (layout_of s) journal m.serial.source).body ≡ 0 → ⊥
    by_put zero is waits queued flying = omega (arith, waits is, queued, flying)
    by_put (suc n) is waits queued flying = put_nowhere (omega (arith, is))
