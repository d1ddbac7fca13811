-- What keeps the events of the direct network from happening, and which logs their entries go into.
use Rattle.std.specs.Prelude.{is_none, not}
use Rattle.std.proofs.Common.{◌≡◌, ℕ, ◌+◌, Bool, true, false, cond, List, [], ◌∷◌, Option, Some, None, refl, ap, ◌∙◌, if◌then◌else◌}
use Rattle.am_names.specs.declared.EndpointId.{EndpointId}
use Rattle.am_names.specs.declared.Verdict.{Verdict}
use Rattle.am_names.specs.declared.Verdict.TheVariants as Verdicts
use Rattle.am_names.specs.declared.Message.{Message}
use Rattle.am_office_entries.specs.declared.Actor.{Actor}
use Rattle.am_office_entries.specs.declared.Call.{Call}
use Rattle.am_office_entries.specs.declared.Condition.{Condition}
use Rattle.am_office_entries.specs.declared.Condition.TheVariants as Needs
use Rattle.am_office_entries.specs.declared.Event.TheVariants as Events
use Rattle.am_office_entries.specs.declared.Outcome.TheVariants as Out
use Rattle.am_office_entries.specs.declared.Entry.{Entry}
use Rattle.am_office_entries.specs.declared.Part.TheVariants as Parts
use Rattle.am_office_entries.specs.Entries.{ends_touched}
use Rattle.am_model.specs.declared.Queued.{Queued}
use Rattle.am_model.specs.Choice.{first_holding}
use Rattle.am_model.specs.Endpoint.{front, is_on_disk}
use Rattle.am_model.specs.Layout.{Layout}
use Rattle.am_model.specs.History.{state_of, failing, outcome_of, carry, judged}
use Rattle.am_model.specs.Steps.{Stop, NotEnabled, LogFull, stop, stop_by, full_log, full_by, least_such, lesser, is_end_full}
use Rattle.am_machine.specs.Carries.{least_full}

-- ---- calls

pub call_enabled : (layout : Layout) (past : List Entry) (actor : Actor) (end : EndpointId) (c : Call) →
    is_on_disk (state_of layout past end).head.place ≡ false → failing layout past (Events.Call actor end c) ≡ None
call_enabled layout past actor end c off = ap (λ (b : Bool). first_holding ((b, Needs.OnDisk) ∷ [])) off

call_stop : (layout : Layout) (past : List Entry) (actor : Actor) (end : EndpointId) (c : Call) (t : Bool) →
    is_on_disk (state_of layout past end).head.place ≡ false → is_end_full layout past end ≡ t →
    stop layout past (Events.Call actor end c) ≡ cond t (Some (LogFull (Parts.Endpoint end))) None
call_stop layout past actor end c t off full =
    ap (λ (f : Option Condition). stop_by f (full_log layout past (Events.Call actor end c))) (call_enabled layout past actor end c off)
    ∙ ap (λ (b : Bool). stop_by None (full_by layout past (if b then Some (lesser end None) else None) None)) full
    ∙ by_test t
  where
    by_test : (b : Bool) → stop_by None (full_by layout past (if b then Some (lesser end None) else None) None) ≡ cond b (Some (LogFull (Parts.Endpoint end)))
        None
    by_test true = refl
    by_test false = refl

pub call_stopped : (layout : Layout) (past : List Entry) (actor : Actor) (end : EndpointId) (c : Call) →
    is_on_disk (state_of layout past end).head.place ≡ false → is_end_full layout past end ≡ true →
    stop layout past (Events.Call actor end c) ≡ Some (LogFull (Parts.Endpoint end))
call_stopped layout past actor end c off full = call_stop layout past actor end c true off full

pub call_made : (layout : Layout) (past : List Entry) (actor : Actor) (end : EndpointId) (c : Call) → is_on_disk (state_of layout past end).head.place ≡ false →
    is_end_full layout past end ≡ false → stop layout past (Events.Call actor end c) ≡ None
call_made layout past actor end c off full = call_stop layout past actor end c false off full

-- ---- carries

carry_failing : (layout : Layout) (past : List Entry) (end : EndpointId) (f : Option Queued) → layout.direct ≡ true → front (state_of layout past end) ≡ f →
    failing layout past (Events.Carry end) ≡ cond (is_none f) (Some Needs.NoMessage) None
carry_failing layout past end f direct at =
    (λ i. first_holding ((not (direct i), Needs.NotDirect) ∷ (is_none (at i), Needs.NoMessage) ∷ []))

pub carry_idle : (layout : Layout) (past : List Entry) (end : EndpointId) → layout.direct ≡ true → front (state_of layout past end) ≡ None →
    stop layout past (Events.Carry end) ≡ Some (NotEnabled Needs.NoMessage)
carry_idle layout past end direct at = ap (λ (f : Option Condition). stop_by f (full_log layout past (Events.Carry end)))
    (carry_failing layout past end None direct at)

pub carry_enabled : (layout : Layout) (past : List Entry) (end : EndpointId) (q : Queued) → layout.direct ≡ true → front (state_of layout past end) ≡ Some q →
    failing layout past (Events.Carry end) ≡ None
carry_enabled layout past end q direct at = carry_failing layout past end (Some q) direct at

-- the endpoints that a carry touches: where the message is, and where it goes
pub judged_touches : (limit : ℕ) (end : EndpointId) (m : Message) (bounces : ℕ) (v : Verdict) →
    ends_touched (Events.Carry end) (judged limit m bounces v) ≡ end ∷ m.dest ∷ []
judged_touches limit end m bounces Verdicts.Accepted = refl
judged_touches limit end m bounces (Verdicts.Refused cause) = by_test _
  where
    by_test : (b : Bool) → ends_touched (Events.Carry end) (if b then Out.Requeued m cause (bounces + 1) else Out.Returned m cause) ≡ end ∷ m.dest ∷ []
    by_test true = refl
    by_test false = refl

pub carry_touches : (layout : Layout) (past : List Entry) (end : EndpointId) (q : Queued) → front (state_of layout past end) ≡ Some q →
    ends_touched (Events.Carry end) (outcome_of layout past (Events.Carry end)) ≡ end ∷ q.message.dest ∷ []
carry_touches layout past end q at = ap (λ (f : Option Queued). ends_touched (Events.Carry end) (carry layout past f)) at
    ∙ judged_touches layout.bounces end q.message q.bounces _

abbrev pub stop_of : Option EndpointId → Option Stop
stop_of None = None
stop_of (Some e) = Some (LogFull (Parts.Endpoint e))

pub carry_stop : (layout : Layout) (past : List Entry) (end : EndpointId) (q : Queued) (a b : Bool) → layout.direct ≡ true →
    front (state_of layout past end) ≡ Some q → is_end_full layout past end ≡ a → is_end_full layout past q.message.dest ≡ b →
    stop layout past (Events.Carry end) ≡ stop_of (least_full end a q.message.dest b)
carry_stop layout past end q a b direct at first second =
    ap (λ (f : Option Condition). stop_by f (full_log layout past (Events.Carry end))) (carry_enabled layout past end q direct at)
    ∙ ap (λ (es : List EndpointId). stop_by None (full_by layout past (least_such (is_end_full layout past) es) None)) (carry_touches layout past end q at)
    ∙ (λ i. stop_by None (full_by layout past (least_full end (first i) q.message.dest (second i)) None))
    ∙ by_least (least_full end a q.message.dest b)
  where
    by_least : (e : Option EndpointId) → stop_by None (full_by layout past e None) ≡ stop_of e
    by_least None = refl
    by_least (Some e) = refl

-- ---- wants

pub want_refused : (layout : Layout) (past : List Entry) (actor : Actor) (end : EndpointId) → is_on_disk (state_of layout past end).head.place ≡ false →
    stop layout past (Events.Want actor end) ≡ Some (NotEnabled Needs.NotOnDisk)
want_refused layout past actor end off = ap (λ (b : Bool). stop_by (first_holding ((not b, Needs.NotOnDisk) ∷ []))
    (full_log layout past (Events.Want actor end))) off

pub want_stopped : (layout : Layout) (past : List Entry) (actor : Actor) (end : EndpointId) → is_on_disk (state_of layout past end).head.place ≡ true →
    is_end_full layout past end ≡ true → stop layout past (Events.Want actor end) ≡ Some (LogFull (Parts.Endpoint end))
want_stopped layout past actor end on full =
    (λ i. stop_by (first_holding ((not (on i), Needs.NotOnDisk) ∷ [])) (full_by layout past (if full i then Some (lesser end None) else None) None))

pub want_made : (layout : Layout) (past : List Entry) (actor : Actor) (end : EndpointId) → is_on_disk (state_of layout past end).head.place ≡ true →
    is_end_full layout past end ≡ false → stop layout past (Events.Want actor end) ≡ None
want_made layout past actor end on room =
    (λ i. stop_by (first_holding ((not (on i), Needs.NotOnDisk) ∷ [])) (full_by layout past (if room i then Some (lesser end None) else None) None))
