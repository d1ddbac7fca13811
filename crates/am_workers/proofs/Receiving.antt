-- What an interface's work adds: the next entry of its log.
use Rattle.std.specs.Prelude.{is_some}
use Rattle.std.proofs.Common.{◌≡◌, ℕ, ◌+◌, ◌<◌, ◌≤◌, ◌||◌, ◌&&◌, Bool, true, false, cond, max, List, [], ◌∷◌, ◌++◌, Option, Some, None, sym, refl, ap, ◌∙◌}
use Rattle.std.proofs.Common.{subst, arith, append-nil, eq-eqb, lt-ltb}
use Rattle.std.specs.List.{filter, list_any}
use Rattle.std.specs.Option.{option_to_list}
use Rattle.std.proofs.lemmas.List.Elements.{filter-append}
use Rattle.am_lemmas.proofs.Numbers.{eqb_less}
use Rattle.am_names.specs.declared.EndpointId.{EndpointId}
use Rattle.am_names.specs.declared.NodeId.{NodeId}
use Rattle.am_names.specs.declared.Message.{Message}
use Rattle.am_names.specs.declared.Packet.{Packet}
use Rattle.am_names.specs.declared.Packet.TheVariants as Packets
use Rattle.am_names.specs.Names.{same_end, same_node}
use Rattle.am_office_entries.specs.declared.Event.TheVariants as Events
use Rattle.am_office_entries.specs.declared.Outcome.TheVariants as Out
use Rattle.am_office_entries.specs.declared.Entry.{Entry}
use Rattle.am_office_entries.specs.Entries.{ends_touched, touches}
use Rattle.am_model.specs.declared.Queued.{Queued}
use Rattle.am_model.specs.Parts.{last_stamp}
use Rattle.am_model.specs.Changes.{flying_of}
use Rattle.am_model.specs.Channels.{attempt, bound_message, sequence}
use Rattle.am_model.specs.Endpoint.{State, front}
use Rattle.am_model.specs.History.{bind_to, is_answered, sent}
use Rattle.am_model.specs.Packets.{stamp_of}
use Rattle.am_model_parts.specs.Interface.{InterfaceLog, bind_at, channel_in, channel_of_front, event_of, expire_at, home_in, needs, outcome_at, stamp_in}
use Rattle.am_model_parts.specs.declared.work.Work.{Work}
use Rattle.am_model_parts.specs.declared.work.Work.TheVariants as Works
use Rattle.am_iface.specs.Turns.{stamp_after}
use Rattle.am_iface.specs.View.{InterfaceView, own}
use Rattle.am_model_merge.specs.Logs.{IsRising}
use Rattle.am_workers_laws.specs.Phases.Crew.{AreReceipts, is_last_by, is_receipt}
use Rattle.am_scenario_plan.specs.Shape.{number_of}
use Rattle.am_scenario_types.specs.Lists.{ScenarioLists}
use Rattle.am_model_scripts.specs.Follows.{is_bounced_out}
use Rattle.am_model_scripts.specs.Links.{number_received}
use Rattle.am_workers.specs.Turns.Turns.{HasTries, MayBounce}
use Rattle.am_workers_laws.specs.Invariants.Works.{held_from}
use Rattle.am_workers_laws.proofs.BooksKept.{rising_push}
use Rattle.am_workers_laws.proofs.Keeping.{AreOf}

-- ---- the stamp

pub rises_by : (log : List Entry) (x : Entry) (floor : ℕ) (w : Work) → IsRising log → x.stamp ≡ stamp_after floor log w → IsRising (log ++ x ∷ [])
rises_by log x floor w rising is = rising_push log x rising (above floor (last_stamp log) (stamp_in w) x.stamp is)
  where
    above : (f n s stamp : ℕ) → stamp ≡ 1 + max (max f n) s → n < stamp
    above f n s stamp is = omega arith

-- ---- what it touches

touched_by : (i : InterfaceLog) (s : State) (w : Work) (x : Entry) (d : EndpointId) →
    ends_touched (event_of i.settings.node w) (outcome_at i s w) ≡ option_to_list (needs i w) → x.event ≡ event_of i.settings.node w →
    x.outcome ≡ outcome_at i s w
    → (o : Option EndpointId) → needs i w ≡ o → touches d x ≡ list_any (same_end d) (option_to_list o)
touched_by i s w x d told event outcome o is = (λ k. list_any (same_end d) (ends_touched (event k) (outcome k)))
    ∙ ap (list_any (same_end d)) (told ∙ ap option_to_list is)

pub touches_none : (i : InterfaceLog) (s : State) (w : Work) (x : Entry) →
    ends_touched (event_of i.settings.node w) (outcome_at i s w) ≡ option_to_list (needs i w) → x.event ≡ event_of i.settings.node w →
    x.outcome ≡ outcome_at i s w → needs i w ≡ None → (d : EndpointId) → touches d x ≡ false
touches_none i s w x told event outcome none d = touched_by i s w x d told event outcome None none

pub touches_one : (i : InterfaceLog) (s : State) (w : Work) (x : Entry) (e : EndpointId) →
    ends_touched (event_of i.settings.node w) (outcome_at i s w) ≡ option_to_list (needs i w) → x.event ≡ event_of i.settings.node w →
    x.outcome ≡ outcome_at i s w → needs i w ≡ Some e → AreOf e (x ∷ [])
touches_one i s w x e told event outcome one = ((λ d. touched_by i s w x d told event outcome (Some e) one ∙ or_none (same_end d e)), tt)
  where
    or_none : (b : Bool) → (b || false) ≡ b
    or_none true = refl
    or_none false = refl

-- ---- the last try is left to others

last_bind : (s : ScenarioLists) (i : InterfaceLog) (state : State) (node : NodeId) (end : EndpointId) → 2 ≤ s.tries →
    is_bounced_out s.bounces (front state) ≡ false → is_last_by s (λ (e : EndpointId). state) (Events.Bind node end) (bind_at i (front state)) ≡ false
last_bind s i state node end tries bounces = by_front (front state) bounces
  where
    by_front : (o : Option Queued) → is_bounced_out s.bounces (front state) ≡ false →
        is_last_by s (λ (e : EndpointId). state) (Events.Bind node end) (bind_at i o) ≡ false
    by_front None h = refl
    by_front (Some q) h = by_home (home_in i q.message.dest) (channel_of_front i (Some q))
      where
        by_home : (home : Option NodeId) (channel : Option ℕ) →
            is_last_by s (λ (e : EndpointId). state) (Events.Bind node end) (bind_to i.settings.node i.log q home channel) ≡ false
        by_home None channel = refl
        by_home (Some peer) None = refl
        by_home (Some peer) (Some channel) = ap (λ (b : Bool). b || is_bounced_out s.bounces (front state)) (eqb_less 1 s.tries (omega arith)) ∙ h

last_expire : (s : ScenarioLists) (i : InterfaceLog) (state : State) (node peer : NodeId) (channel : ℕ) → i.settings.tries ≡ s.tries →
    attempt (channel_in i peer channel) i.log + 2 < i.settings.tries
    → is_last_by s (λ (e : EndpointId). state) (Events.Expire node peer channel) (expire_at i state peer channel
    (bound_message (channel_in i peer channel) i.log)) ≡ false
last_expire s i state node peer channel same lt = by_bound (bound_message (channel_in i peer channel) i.log)
  where
    n : ℕ
    n = attempt (channel_in i peer channel) i.log

    less : n + 1 < i.settings.tries
    less = let l : n + 2 < i.settings.tries = lt in omega arith

    by_bound : (o : Option Message) → is_last_by s (λ (e : EndpointId). state) (Events.Expire node peer channel) (expire_at i state peer channel o) ≡ false
    by_bound None = refl
    by_bound (Some m) =
        ap (λ (b : Bool). is_last_by s (λ (e : EndpointId). state) (Events.Expire node peer channel)
        (cond b (sent i.settings.node peer channel i.log m (sequence (channel_in i peer channel) i.log) (n + 1))
        (cond (is_answered (flying_of m.serial state.body.in_flight)) (Out.Delivered m.serial) (Out.Unknown m.serial))))
        (lt-ltb (n + 1) i.settings.tries less)
        ∙ eqb_less (n + 1 + 1) s.tries (let l : n + 2 < i.settings.tries = lt in omega arith)

-- the work is none that is left to others
abbrev pub LastFree : InterfaceView → State → Work → Type 0
LastFree i state (Works.Receive p) = Unit {0}
LastFree i state (Works.Bind end) = is_bounced_out i.settings.bounces (front state) ≡ false
LastFree i state (Works.Expire peer channel) = attempt (channel_in (own i) peer channel) i.log + 2 < i.settings.tries

pub alone_free : (i : InterfaceView) (state : State) (w : Work) → needs (own i) w ≡ None → HasTries i w → LastFree i state w
alone_free i state (Works.Receive p) none has = tt
alone_free i state (Works.Bind end) none has = absurd (cc)
alone_free i state (Works.Expire peer channel) none has = has

pub with_free : (i : InterfaceView) (state : State) (w : Work) → MayBounce i.settings.bounces state w → LastFree i state w
with_free i state (Works.Receive p) may = tt
with_free i state (Works.Bind end) may = may
with_free i state (Works.Expire peer channel) may = absurd may

pub not_last : (s : ScenarioLists) (i : InterfaceView) (state : State) (w : Work) → 2 ≤ s.tries → i.settings.tries ≡ s.tries → i.settings.bounces ≡ s.bounces →
    LastFree i state w
    → is_last_by s (λ (e : EndpointId). state) (event_of i.settings.node w) (outcome_at (own i) state w) ≡ false
not_last s i state (Works.Receive (Packets.Parcel p)) two tries bounces free = refl
not_last s i state (Works.Receive (Packets.Answer p)) two tries bounces free = refl
not_last s i state (Works.Bind end) two tries bounces free = last_bind s (own i) state i.settings.node end two
    (subst (λ (n : ℕ). is_bounced_out n (front state) ≡ false) bounces free)
not_last s i state (Works.Expire peer channel) two tries bounces free = last_expire s (own i) state i.settings.node peer channel tries free

-- ---- what was received

append_receipts : (from to : NodeId) (ps qs : List Packet) (xs ys : List Entry) → AreReceipts from to ps xs → AreReceipts from to qs ys →
    AreReceipts from to (ps ++ qs) (xs ++ ys)
append_receipts from to [] qs [] ys h k = k
append_receipts from to [] qs (x ∷ xs) ys h k = absurd h
append_receipts from to (p ∷ ps) qs [] ys h k = absurd h
append_receipts from to (p ∷ ps) qs (x ∷ xs) ys h k = (h.0, h.1, append_receipts from to ps qs xs ys h.2 k)

one_receipt : (from to link : NodeId) (p : Packet) (x : Entry) → x.event ≡ Events.Receive to link (number_of p) → stamp_of p < x.stamp →
    AreReceipts from to (held_from from (Some (link, p))) (filter (is_receipt from to) (x ∷ []))
one_receipt from to link p x event later = by_test (same_node from link) (number_received from to x.event) (ap (number_received from to) event
    ∙ ap (λ (b : Bool). cond (same_node from link && b) (Some (number_of p)) None) (eq-eqb to.0 to.0 refl)) refl
  where
    by_test : (b : Bool) (o : Option ℕ) → o ≡ cond (b && true) (Some (number_of p)) None → number_received from to x.event ≡ o →
        AreReceipts from to (cond b (p ∷ []) []) (cond (is_some o) (x ∷ []) [])
    by_test true o is at = subst (λ (z : Option ℕ). AreReceipts from to (p ∷ []) (cond (is_some z) (x ∷ []) [])) (sym is) (at ∙ is, later, tt)
    by_test false o is at = subst (λ (z : Option ℕ). AreReceipts from to [] (cond (is_some z) (x ∷ []) [])) (sym is) tt

pub receipts_more : (from to link : NodeId) (p : Packet) (x : Entry) (got : List Packet) (log : List Entry) →
    AreReceipts from to got (filter (is_receipt from to) log) → x.event ≡ Events.Receive to link (number_of p) → stamp_of p < x.stamp
    → AreReceipts from to (got ++ held_from from (Some (link, p))) (filter (is_receipt from to) (log ++ x ∷ []))
receipts_more from to link p x got log h event later =
    subst (λ (xs : List Entry). AreReceipts from to (got ++ held_from from (Some (link, p))) xs) (sym (filter-append (is_receipt from to) log (x ∷ [])))
    (append_receipts from to got (held_from from (Some (link, p))) (filter (is_receipt from to) log) (filter (is_receipt from to) (x ∷ [])) h
    (one_receipt from to link p x event later))

pub receipts_same : (from to : NodeId) (x : Entry) (got : List Packet) (log : List Entry) → is_receipt from to x ≡ false →
    AreReceipts from to got (filter (is_receipt from to) log) → AreReceipts from to got (filter (is_receipt from to) (log ++ x ∷ []))
receipts_same from to x got log none h =
    subst (AreReceipts from to got) (sym (filter-append (is_receipt from to) log (x ∷ [])
    ∙ ap (λ (b : Bool). filter (is_receipt from to) log ++ cond b (x ∷ []) []) none ∙ append-nil (filter (is_receipt from to) log))) h

pub held_is : (link : NodeId) (p : Packet) → held_from link (Some (link, p)) ≡ p ∷ []
held_is link p = ap (λ (b : Bool). cond b (p ∷ []) []) (eq-eqb link.0 link.0 refl)
