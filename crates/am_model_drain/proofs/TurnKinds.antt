-- Which turns the rules give.
use Rattle.std.proofs.Common.{◌≡◌, ℕ, zero, suc, List, [], ◌∷◌, map, length, Option, Some, None, Bool, true, false, refl, sym, ◌∙◌, ap, subst, cond, eqb-true}
use Rattle.std.proofs.Common.{eq-eqb}
use Rattle.std.specs.Prelude.{◌==◌, nat_lt, filter, filter_map, find, fold, slice_get, option_map, MatchOption, if◌then◌else◌}
use Rattle.std.specs.List.{list_any, cons_option, range_with_len, AllByRecursion}
use Rattle.std.proofs.lemmas.Bool.{or_right, or_left}
use Rattle.am_names.specs.declared.NodeId.{NodeId}
use Rattle.am_office_entries.specs.declared.Event.{Event}
use Rattle.am_office_entries.specs.declared.Event.TheVariants as Events
use Rattle.am_office_entries.specs.declared.Entry.{Entry}
use Rattle.am_model.specs.declared.Queued.{Queued}
use Rattle.am_model.specs.Endpoint.{front}
use Rattle.am_model.specs.History.{is_bound, channel_to}
use Rattle.am_scenario_types.specs.declared.parts.ThreadLine.{ThreadLine}
use Rattle.am_scenario_types.specs.declared.parts.ScriptCall.{ScriptCall}
use Rattle.am_scenario_types.specs.Lists.{ScenarioLists}
use Rattle.am_model_scripts.specs.Layout.{layout_of}
use Rattle.am_model_scripts.specs.Links.{first_some, nodes_of, due, receipt, receipt_at, next_receipt}
use Rattle.am_model_scripts.specs.Scripts.{call_made, is_of_thread, calls_of, call_left}
use Rattle.am_model_scripts.specs.Standings.{Standing, standings, is_missed}
use Rattle.am_model_scripts.specs.Follows.{is_thread, is_of_run}
use Rattle.am_model_drain.specs.declared.Turn.{Turn}
use Rattle.am_model_drain.specs.declared.Turn.TheVariants.{Once, Make}
use Rattle.am_model_drain.specs.Rules.{time_out, time_out_to, time_out_at, next_time_out, page_in_of, next_page_in, next_sender, send_front, send_of, next_send}
use Rattle.am_model_drain.specs.Rules.{Left, left_after, left_to, fewer, make_of, next_call, poll_of, is_pollable, next_poll}
use Rattle.am_model_drain.proofs.Turns.{IsTurnBy, Receives, TimesOut, PagesIn, Sends, Makes, Polls, event_of}

-- ---- the first of some

abbrev pub Maybe : {X : Type 0} → (X → Type 0) → Option X → Type 0
Maybe P o = MatchOption o (Unit {0}) P

pub is_so : {X : Type 0} (P : X → Type 0) (o : Option X) (x : X) → Maybe P o → o ≡ Some x → P x
is_so P None x h e = absurd (cc)
is_so P (Some y) x h e = let same : y ≡ x = cc in subst P same h

pub first_so : {X : Type 0} (P : X → Type 0) (o : Option X) (os : List (Option X)) → Maybe P o → Maybe P (first_some os) → Maybe P (first_some (o ∷ os))
first_so P None os a b = b
first_so P (Some x) os a b = a

all_so : {X Y : Type 0} (P : Y → Type 0) (f : X → Option Y) → ((x : X) → Maybe P (f x)) → (xs : List X) → Maybe P (first_some (map f xs))
all_so P f h [] = tt
all_so P f h (x ∷ xs) = first_so P (f x) (map f xs) (h x) (all_so P f h xs)

-- ---- receipts

-- an event receives the packet that is due
abbrev pub IsDueReceipt : ScenarioLists → List Entry → Event → Type 0
IsDueReceipt scenario past (Events.Receive node peer number) = due scenario peer node past ≡ Some number
IsDueReceipt scenario past event = ⊥

receipt_so : (scenario : ScenarioLists) (past : List Entry) (node peer : NodeId) (o : Option ℕ) → due scenario peer node past ≡ o →
    Maybe (IsDueReceipt scenario past) (receipt node peer o)
receipt_so scenario past node peer None e = tt
receipt_so scenario past node peer (Some number) e = e

pub next_receipt_so : (scenario : ScenarioLists) (past : List Entry) → Maybe (IsDueReceipt scenario past) (next_receipt scenario past)
next_receipt_so scenario past =
    let P : Event → Type 0 = IsDueReceipt scenario past in
    all_so P (receipt_at scenario past) (λ (node : NodeId). all_so P (λ (peer : NodeId). receipt node peer (due scenario peer node past))
    (λ (peer : NodeId). receipt_so scenario past node peer (due scenario peer node past) refl) (nodes_of scenario)) (nodes_of scenario)

-- ---- time-outs, page-ins, sends and polls

abbrev pub IsNoReceipt : Event → Type 0
IsNoReceipt (Events.Receive node peer number) = ⊥
IsNoReceipt event = Unit {0}

-- a turn of a run that is neither a receipt nor a call of a thread
pub record IsPlain (scenario : ScenarioLists) (t : Turn) : Type 0 where
  pub no_receipt : IsNoReceipt (event_of t)
  pub no_call : call_made (event_of t) ≡ None
  pub of_run : is_of_run scenario (event_of t) ≡ true

expire_so : (scenario : ScenarioLists) (node peer : NodeId) (channel : ℕ) (b : Bool) →
    Maybe (IsPlain scenario) (if b then Some (Once (Events.Expire node peer channel)) else None)
expire_so scenario node peer channel true = record { no_receipt = tt; no_call = refl; of_run = refl }
expire_so scenario node peer channel false = tt

time_out_so : (scenario : ScenarioLists) (past : List Entry) → Maybe (IsPlain scenario) (next_time_out scenario past)
time_out_so scenario past =
    let P : Turn → Type 0 = IsPlain scenario in
    all_so P (time_out_at scenario past) (λ (node : NodeId). all_so P (time_out_to scenario past node)
    (λ (peer : NodeId). all_so P (time_out node peer past) (λ (channel : ℕ). expire_so scenario node peer channel
    (is_bound (channel_to node peer channel) past)) (range_with_len 0 scenario.channels)) (nodes_of scenario)) (nodes_of scenario)

page_in_so : (scenario : ScenarioLists) (o : Option Standing) → Maybe (IsPlain scenario) (option_map page_in_of o)
page_in_so scenario None = tt
page_in_so scenario (Some s) = record { no_receipt = tt; no_call = refl; of_run = refl }

poll_so : (scenario : ScenarioLists) (o : Option Standing) → Maybe (IsPlain scenario) (option_map poll_of o)
poll_so scenario None = tt
poll_so scenario (Some s) = record { no_receipt = tt; no_call = refl; of_run = refl }

front_so : (scenario : ScenarioLists) (s : Standing) (o : Option Queued) → Maybe (IsPlain scenario) (send_front s o)
front_so scenario s None = tt
front_so scenario s (Some q) = record { no_receipt = tt; no_call = refl; of_run = refl }

send_so : (scenario : ScenarioLists) (o : Option Standing) → Maybe (IsPlain scenario) (send_of o)
send_so scenario None = tt
send_so scenario (Some s) = front_so scenario s (front s.state)

-- ---- calls of the threads

-- a call is the next one of its thread
pub record IsCallDue (scenario : ScenarioLists) (past : List Entry) (c : ScriptCall) : Type 0 where
  pub thread : is_thread scenario c.thread ≡ true
  pub left : call_left scenario past c.thread ≡ Some c

abbrev pub IsLeft : ScenarioLists → List Entry → Left → Type 0
IsLeft scenario past l = IsCallDue scenario past l.call

fewer_so : (P : Left → Type 0) (b : Bool) (l best : Left) → P l → P best → P (if b then l else best)
fewer_so P true l best e f = e
fewer_so P false l best e f = f

fold_so : (P : Left → Type 0) (ls : List Left) (best : Option Left) → AllByRecursion P ls → Maybe P best → Maybe P (fold fewer best ls)
fold_so P [] best all e = e
fold_so P (l ∷ ls) None all e = fold_so P ls (Some l) all.1 all.0
fold_so P (l ∷ ls) (Some best) all e = fold_so P ls (fewer (Some best) l) all.1 (fewer_so P (nat_lt l.after best.after) l best all.0 e)

-- a call of a thread's script is of that thread
script_step : (thread : ℕ) (b : Bool) (c : ScriptCall) (rest : List ScriptCall) (k : ℕ) → (thread == c.thread) ≡ b →
    ((i : ℕ) → Maybe (λ (d : ScriptCall). thread ≡ d.thread) (slice_get rest i)) →
    Maybe (λ (d : ScriptCall). thread ≡ d.thread) (slice_get (cond b (c ∷ rest) rest) k)
script_step thread true c rest zero e h = eqb-true thread c.thread e
script_step thread true c rest (suc k) e h = h k
script_step thread false c rest k e h = h k

script_thread : (thread : ℕ) (cs : List ScriptCall) (k : ℕ) → Maybe (λ (d : ScriptCall). thread ≡ d.thread) (slice_get (filter (is_of_thread thread) cs) k)
script_thread thread [] k = tt
script_thread thread (c ∷ cs) k = script_step thread (thread == c.thread) c (filter (is_of_thread thread) cs) k refl (script_thread thread cs)

left_step : (scenario : ScenarioLists) (past : List Entry) (thread after : ℕ) (o : Option ScriptCall) (rest : List Left) → is_thread scenario thread ≡ true →
    call_left scenario past thread ≡ o → Maybe (λ (d : ScriptCall). thread ≡ d.thread) o → AllByRecursion (IsLeft scenario past) rest →
    AllByRecursion (IsLeft scenario past) (cons_option (left_after after o) rest)
left_step scenario past thread after None rest e is same all = all
left_step scenario past thread after (Some c) rest e is same all = (
  record { thread = ap (is_thread scenario) (sym same) ∙ e; left = ap (call_left scenario past) (sym same) ∙ is },
  all,
)

-- whether one of these threads has this number
abbrev pub is_among : List ThreadLine → ℕ → Bool
is_among threads thread = list_any (λ (t : ThreadLine). t.id == thread) threads

lefts_so : (scenario : ScenarioLists) (past : List Entry) (threads : List ThreadLine) → ((thread : ℕ) → is_among threads thread ≡ true →
    is_thread scenario thread ≡ true) → AllByRecursion (IsLeft scenario past) (filter_map (left_to scenario past) threads)
lefts_so scenario past [] h = tt
lefts_so scenario past (t ∷ ts) h =
    left_step scenario past t.id (length (calls_of t.id past)) (call_left scenario past t.id) (filter_map (left_to scenario past) ts)
    (h t.id (or_left (t.id == t.id) (is_among ts t.id) (eq-eqb t.id t.id refl)))
    refl
    (script_thread t.id scenario.script (length (calls_of t.id past)))
    (lefts_so scenario past ts (λ (thread : ℕ) e. h thread (or_right (t.id == thread) (is_among ts thread) e)))

abbrev pub IsDueMake : ScenarioLists → List Entry → Turn → Type 0
IsDueMake scenario past t = (c : ScriptCall) × (Make c ≡ t) × IsCallDue scenario past c

make_so : (scenario : ScenarioLists) (past : List Entry) (o : Option Left) → Maybe (IsLeft scenario past) o →
    Maybe (IsDueMake scenario past) (option_map make_of o)
make_so scenario past None e = tt
make_so scenario past (Some l) e = (l.call, refl, e)

next_call_so : (scenario : ScenarioLists) (past : List Entry) → Maybe (IsDueMake scenario past) (next_call scenario past)
next_call_so scenario past =
    let lefts : List Left = filter_map (left_to scenario past) scenario.threads in
    make_so scenario past (fold fewer None lefts) (fold_so (IsLeft scenario past) lefts None (lefts_so scenario past scenario.threads (λ (thread : ℕ) h. h)) tt)

-- ---- all six

-- a turn receives a packet in its turn; or nothing is to be received, and it is plain or the next call of a thread
pub data Kind (scenario : ScenarioLists) (past : List Entry) (t : Turn) : Type 0 where
  Receipt : (event : Event) → Once event ≡ t → IsDueReceipt scenario past event → Kind scenario past t
  Plain : next_receipt scenario past ≡ None → IsPlain scenario t → Kind scenario past t
  Call : next_receipt scenario past ≡ None → IsDueMake scenario past t → Kind scenario past t

pub kind_of : (scenario : ScenarioLists) (past : List Entry) (t : Turn) → IsTurnBy scenario past t → Kind scenario past t
kind_of scenario past t (Receives event e same) = Receipt event same (is_so (IsDueReceipt scenario past) (next_receipt scenario past) event
    (next_receipt_so scenario past) e)
kind_of scenario past t (TimesOut r e) = Plain r (is_so (IsPlain scenario) (next_time_out scenario past) t (time_out_so scenario past) e)
kind_of scenario past t (PagesIn r o e) =
    let ends : List Standing = standings (layout_of scenario) past in
    Plain r (is_so (IsPlain scenario) (next_page_in ends) t (page_in_so scenario (find is_missed ends)) e)
kind_of scenario past t (Sends r o p e) =
    let ends : List Standing = standings (layout_of scenario) past in
    Plain r (is_so (IsPlain scenario) (next_send ends) t (send_so scenario (next_sender ends)) e)
kind_of scenario past t (Makes r o p s e) = Call r (is_so (IsDueMake scenario past) (next_call scenario past) t (next_call_so scenario past) e)
kind_of scenario past t (Polls r o p s c e) =
    let ends : List Standing = standings (layout_of scenario) past in
    Plain r (is_so (IsPlain scenario) (next_poll ends) t (poll_so scenario (find is_pollable ends)) e)
