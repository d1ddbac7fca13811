-- The books of each endpoint balance, over whole histories of the direct network.
use Rattle.std.specs.Prelude.{not, is_none}
use Rattle.std.proofs.Common.{◌≡◌, ℕ, ◌+◌, Bool, true, false, cond, ◌||◌, List, [], ◌∷◌, ◌++◌, Option, Some, None, refl, sym, ap, ◌∙◌, arith, true≢false}
use Rattle.std.specs.List.{count_by, list_any}
use Rattle.std.proofs.lemmas.List.Sums.{sum_by_push}
use Rattle.am_lemmas.proofs.Bools.{or_first_fails}
use Rattle.am_names.specs.declared.EndpointId.{EndpointId}
use Rattle.am_names.specs.declared.NodeId.{NodeId}
use Rattle.am_names.specs.declared.Message.{Message}
use Rattle.am_office_entries.specs.declared.Condition.{Condition}
use Rattle.am_office_entries.specs.declared.Condition.TheVariants as Needs
use Rattle.am_office_entries.specs.declared.Event.{Event}
use Rattle.am_office_entries.specs.declared.Event.TheVariants as Events
use Rattle.am_office_entries.specs.declared.Received.{Received}
use Rattle.am_office_entries.specs.declared.Received.TheVariants as Got
use Rattle.am_office_entries.specs.declared.Outcome.{Outcome}
use Rattle.am_office_entries.specs.declared.Outcome.TheVariants as Out
use Rattle.am_office_entries.specs.declared.Entry.{Entry}
use Rattle.am_names.specs.Names.{same_end}
use Rattle.am_model.specs.Choice.{first_holding}
use Rattle.am_model.specs.declared.Queued.{Queued}
use Rattle.am_model.specs.Endpoint.{State, front, verdict}
use Rattle.am_model.specs.Calls.{outcome_of_call}
use Rattle.am_office_entries.specs.Entries.{touches, ends_touched, touched_by_result, passes}
use Rattle.am_model.specs.Layout.{Layout}
use Rattle.am_model.specs.History.{state_of, MayFollow, failing, outcome_of, carry}
use Rattle.am_model.proofs.Each.{state_of_push}
use Rattle.am_model.proofs.Received.{weight, held, run_at, put_at, FitsCall, changed_received, one_touched}
use Rattle.am_model.proofs.Queues.{to_send, accepted_at, left_at, Judged, FitsDirect, changed_sends}
use Rattle.am_model.proofs.Names.{same_end-is}

-- how many entries have, in this role, a message that passes
abbrev pub count_role : (Event → Outcome → Option Message) → (Message → Bool) → List Entry → ℕ
count_role role p xs = count_by (λ (x : Entry). passes p (role x.event x.outcome)) xs

pub role_push : (role : Event → Outcome → Option Message) (p : Message → Bool) (xs : List Entry) (x : Entry) →
    count_role role p (xs ++ x ∷ []) ≡ count_role role p xs + weight p (role x.event x.outcome)
role_push role p xs x = sum_by_push (λ (y : Entry). cond (passes p (role y.event y.outcome)) 1 0) xs x

-- the outcome of a call is the one of the endpoint's state
pub fits_call : (layout : Layout) (past : List Entry) (e : EndpointId) (x : Entry) → MayFollow layout past x → touches e x ≡ true →
    FitsCall layout.pool (state_of layout past e) x.event x.outcome
fits_call layout past e x may at = by_event x.event x.outcome at may.outcome
  where
    by_event : (event : Event) (o : Outcome) → list_any (same_end e) (ends_touched event o) ≡ true → o ≡ outcome_of layout past event →
        FitsCall layout.pool (state_of layout past e) event o
    by_event (Events.Call actor end call) o t is =
        let same : e ≡ end = same_end-is e end (one_touched (same_end e end) t) in
        is ∙ ap (λ (w : EndpointId). outcome_of_call layout.pool end (state_of layout past w) call) (sym same)
    by_event (Events.Want actor end) o t is = tt
    by_event (Events.Carry end) o t is = tt
    by_event (Events.Bind node end) o t is = tt
    by_event (Events.Expire node peer channel) o t is = tt
    by_event (Events.Receive node peer number) o t is = tt
    by_event (Events.Drain node end) o t is = tt
    by_event (Events.Unload node end) o t is = tt
    by_event (Events.Load node end frame) o t is = tt
    by_event (Events.PageOut node end) o t is = tt
    by_event (Events.PageIn node end) o t is = tt

pub carry_judged : (layout : Layout) (past : List Entry) (s : State) (o : Outcome) (f : Option Queued) → front s ≡ f → is_none f ≡ false →
    o ≡ carry layout past f → Judged s o
carry_judged layout past s o None at there is = absurd (true≢false there)
carry_judged layout past s o (Some q) at there is =
    record {
      queued = q;
      limit = layout.bounces;
      bounces = q.bounces;
      verdict = verdict (state_of layout past q.message.dest) q.message;
      is_front = at;
      is_judged = is;
    }

-- what a list of two conditions says where none of them holds
pub second_fails : (a b : Bool) (x y : Condition) → first_holding ((a, x) ∷ (b, y) ∷ []) ≡ None → b ≡ false
second_fails true b x y h = absurd (cc)
second_fails false true x y h = absurd (cc)
second_fails false false x y h = refl

pub first_fails : (a : Bool) (x : Condition) (rest : Option Condition) → cond a (Some x) rest ≡ None → a ≡ false
first_fails true x rest h = absurd (cc)
first_fails false x rest h = refl

-- on the direct network
pub fits_direct : (layout : Layout) → layout.direct ≡ true → (past : List Entry) (e : EndpointId) (x : Entry) → MayFollow layout past x →
    FitsDirect e (state_of layout past e) x.event x.outcome
fits_direct layout direct past e x may = by_event x.event x.outcome may.enabled may.outcome
  where
    off : (rest : Option Condition) → cond layout.direct (Some Needs.NotPacket) rest ≡ None → ⊥
    off rest h = true≢false (sym direct ∙ first_fails layout.direct Needs.NotPacket rest h)

    by_event : (event : Event) (o : Outcome) → failing layout past event ≡ None → o ≡ outcome_of layout past event →
        FitsDirect e (state_of layout past e) event o
    by_event (Events.Call actor end call) o on is = tt
    by_event (Events.Want actor end) o on is = tt
    by_event (Events.Carry end) o on is =
        λ (t : same_end e end ≡ true).
        let same : end ≡ e = sym (same_end-is e end t) in
        carry_judged layout past (state_of layout past e) o (front (state_of layout past end))
        (ap (λ (w : EndpointId). front (state_of layout past w)) (sym same)) (second_fails (not layout.direct) (is_none (front (state_of layout past end)))
        Needs.NotDirect Needs.NoMessage on) is
    by_event (Events.Bind node end) o on is = off _ on
    by_event (Events.Expire node peer channel) o on is = off _ on
    by_event (Events.Receive node peer number) o on is = off _ on
    by_event (Events.Drain node end) o on is = tt
    by_event (Events.Unload node end) o on is = tt
    by_event (Events.Load node end frame) o on is = tt
    by_event (Events.PageOut node end) o on is = tt
    by_event (Events.PageIn node end) o on is = tt

-- an endpoint that is not touched runs and gets nothing, accepts nothing and loses nothing
pub not_touched : (b : Bool) → (b || false) ≡ false → b ≡ false
not_touched true h = h
not_touched false h = refl

pub right_part : (a b : Bool) → (a || (b || false)) ≡ false → b ≡ false
right_part true true h = h
right_part true false h = refl
right_part false true h = h
right_part false false h = refl

nothing_run : (p : Message → Bool) (e : EndpointId) (event : Event) (o : Outcome) → list_any (same_end e) (ends_touched event o) ≡ false →
    weight p (run_at e event o) ≡ 0
nothing_run p e (Events.Call actor end call) o t = let off : same_end e end ≡ false = not_touched (same_end e end) t in rw off refl
nothing_run p e event o t = refl

nothing_put_by : (p : Message → Bool) (e : EndpointId) (node peer : NodeId) (number channel seq attempt : ℕ) (r : Received) →
    list_any (same_end e) (touched_by_result r) ≡ false → weight p (put_at e (Events.Receive node peer number) (Out.Received channel seq attempt r)) ≡ 0
nothing_put_by p e node peer number channel seq attempt (Got.Accepted m answer) t = let off : same_end e m.dest ≡ false = not_touched (same_end e m.dest) t in
    rw off refl
nothing_put_by p e node peer number channel seq attempt r t = refl

nothing_put : (p : Message → Bool) (e : EndpointId) (event : Event) (o : Outcome) → list_any (same_end e) (ends_touched event o) ≡ false →
    weight p (put_at e event o) ≡ 0
nothing_put p e (Events.Carry end) (Out.Accepted m) t = let off : same_end e m.dest ≡ false = right_part (same_end e end) (same_end e m.dest) t in rw off refl
nothing_put p e (Events.Receive node peer number) (Out.Received channel seq attempt r) t = nothing_put_by p e node peer number channel seq attempt r t
nothing_put p e event o t = refl

nothing_accepted : (p : Message → Bool) (e : EndpointId) (event : Event) (o : Outcome) → list_any (same_end e) (ends_touched event o) ≡ false →
    weight p (accepted_at e event o) ≡ 0
nothing_accepted p e (Events.Call actor end call) o t = let off : same_end e end ≡ false = not_touched (same_end e end) t in rw off refl
nothing_accepted p e event o t = refl

nothing_left : (p : Message → Bool) (e : EndpointId) (event : Event) (o : Outcome) → list_any (same_end e) (ends_touched event o) ≡ false →
    weight p (left_at e event o) ≡ 0
nothing_left p e (Events.Carry end) o t = let off : same_end e end ≡ false = or_first_fails (same_end e end) _ t in rw off refl
nothing_left p e event o t = refl

-- of each endpoint and each test: what was put is what is received and what ran
abbrev pub ReceivedBalance : Layout → List Entry → Type 0
ReceivedBalance layout past = (p : Message → Bool) (e : EndpointId) →
    count_role (put_at e) p past ≡ held p (state_of layout past e) + count_role (run_at e) p past

-- of each endpoint and each test: what was put is what is received and what ran; what was accepted is what is to be sent and what left
pub record Balance (layout : Layout) (past : List Entry) : Type 0 where
  pub received : (p : Message → Bool) (e : EndpointId) → count_role (put_at e) p past ≡ held p (state_of layout past e) + count_role (run_at e) p past
  pub sent : (p : Message → Bool) (e : EndpointId) → count_role (accepted_at e) p past ≡ to_send p (state_of layout past e).body + count_role (left_at e) p past

pub balance_received : (layout : Layout) (past : List Entry) (x : Entry) → ReceivedBalance layout past → MayFollow layout past x →
    (p : Message → Bool) (e : EndpointId) (t : Bool) → touches e x ≡ t →
    count_role (put_at e) p (past ++ x ∷ []) ≡ held p (state_of layout (past ++ x ∷ []) e) + count_role (run_at e) p (past ++ x ∷ [])
balance_received layout past x b may p e true at =
    rw (state_of_push layout past x e true at, role_push (put_at e) p past x, role_push (run_at e) p past x)
    (omega (arith, b p e, changed_received layout.pool p e (state_of layout past e) x.event x.outcome at (fits_call layout past e x may at)))
balance_received layout past x b may p e false at =
    rw (state_of_push layout past x e false at, role_push (put_at e) p past x, role_push (run_at e) p past x)
    (omega (arith, b p e, nothing_put p e x.event x.outcome at, nothing_run p e x.event x.outcome at))

balance_sent : (layout : Layout) → layout.direct ≡ true → (past : List Entry) (x : Entry) → Balance layout past → MayFollow layout past x →
    (p : Message → Bool) (e : EndpointId) (t : Bool) → touches e x ≡ t →
    count_role (accepted_at e) p (past ++ x ∷ []) ≡ to_send p (state_of layout (past ++ x ∷ []) e).body + count_role (left_at e) p (past ++ x ∷ [])
balance_sent layout direct past x b may p e true at =
    rw (state_of_push layout past x e true at, role_push (accepted_at e) p past x, role_push (left_at e) p past x)
    (omega (arith, b.sent p e, changed_sends p e (state_of layout past e) x.event x.outcome at (fits_direct layout direct past e x may)))
balance_sent layout direct past x b may p e false at =
    rw (state_of_push layout past x e false at, role_push (accepted_at e) p past x, role_push (left_at e) p past x)
    (omega (arith, b.sent p e, nothing_accepted p e x.event x.outcome at, nothing_left p e x.event x.outcome at))

pub balance_more : (layout : Layout) → layout.direct ≡ true → (past : List Entry) (x : Entry) → Balance layout past → MayFollow layout past x →
    Balance layout (past ++ x ∷ [])
balance_more layout direct past x b may =
    record {
      received = λ p e. balance_received layout past x b.received may p e (touches e x) refl;
      sent = λ p e. balance_sent layout direct past x b may p e (touches e x) refl;
    }
