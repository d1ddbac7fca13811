-- Before a message is bound for its last time each message in flight may bounce again.
use Rattle.std.specs.Prelude.{nat_lt, ◌==◌, ◌||◌, count_by}
use Rattle.std.specs.List.{find, list_any}
use Rattle.std.proofs.Common.{◌≡◌, ℕ, ◌+◌, ◌<◌, Bool, true, false, cond, List, [], ◌∷◌, ◌++◌, Option, Some, None, refl, sym, ap, ◌∙◌, subst, arith, true≢false}
use Rattle.std.proofs.Common.{lt-ltb}
use Rattle.std.proofs.lemmas.Bool.{or_parts, eqb-false}
use Rattle.std.proofs.lemmas.List.Sums.{sum_by-cons}
use Rattle.am_names.specs.Names.{same_end, has_serial}
use Rattle.am_names.specs.declared.EndpointId.{EndpointId}
use Rattle.am_names.specs.declared.Message.{Message}
use Rattle.am_office_entries.specs.declared.Entry.{Entry}
use Rattle.am_office_entries.specs.declared.Event.{Event}
use Rattle.am_office_entries.specs.declared.Event.TheVariants as Events
use Rattle.am_office_entries.specs.declared.Outcome.{Outcome}
use Rattle.am_office_entries.specs.declared.Outcome.TheVariants as Out
use Rattle.am_office_entries.specs.Entries.{ends_touched}
use Rattle.am_model.specs.declared.Flying.{Flying}
use Rattle.am_model.specs.declared.Queued.{Queued}
use Rattle.am_model.specs.Changes.{bounces_of, flying_of}
use Rattle.am_model.specs.Channels.{Channel, bound_message}
use Rattle.am_model.specs.Cluster.{BouncesAreRequeues, HasBounced}
use Rattle.am_model.specs.Endpoint.{front_of, front}
use Rattle.am_model.specs.History.{MayFollow, IsHistory, state_of, bind, bounced, outcome_of}
use Rattle.am_model.specs.Layout.{Layout, AllAre}
use Rattle.am_model.proofs.Names.{same_end-is}
use Rattle.am_laws_cluster.proofs.Bound.{in_flight_bound}
use Rattle.am_laws_cluster.proofs.Bounced.{bounces_are}
use Rattle.am_laws.proofs.Alls.{all_found}
use Rattle.am_scenario_types.specs.Lists.{ScenarioLists}
use Rattle.am_model_scripts.specs.Layout.{layout_of}
use Rattle.am_model_scripts.proofs.Lawful.{lawful_layout}
use Rattle.am_model_scripts.specs.Follows.{is_bounced_out, is_last_in, is_last}
use Rattle.am_laws_runs.specs.Turns.Enabled.{IsOfRun}
use Rattle.am_laws_runs.proofs.Enabled.{of_packets}
use Rattle.am_laws_runs.proofs.Queues.{BindsLow, AreFine, fine_more, IsLow}

-- so few bounces that one more is within the limit
abbrev pub MayBounce : ScenarioLists → ℕ → Type 0
MayBounce s n = n < s.bounces

-- ---- what is bound may bounce, where it isn't bound for its last time

may_bounce : (s : ScenarioLists) (past : List Entry) (q : Queued) → HasBounced (layout_of s) past q.message q.bounces → (q.bounces == s.bounces) ≡ false →
    q.bounces < s.bounces
may_bounce s past q has apart =
    let other : q.bounces ≡ s.bounces → ⊥ = eqb-false q.bounces s.bounces apart in
    omega (arith, has.1, other)

front_bounces : (s : ScenarioLists) (past : List Entry) (replies requests : List Queued) →
    AllAre (λ (q : Queued). HasBounced (layout_of s) past q.message q.bounces) replies →
    AllAre (λ (q : Queued). HasBounced (layout_of s) past q.message q.bounces) requests → is_bounced_out s.bounces (front_of replies requests) ≡ false →
    (front_of replies requests ≡ None → ⊥) → bounces_of replies requests < s.bounces
front_bounces s past (r ∷ replies) requests a b not_out some = may_bounce s past r a.0 not_out
front_bounces s past [] (r ∷ requests) a b not_out some = may_bounce s past r b.0 not_out
front_bounces s past [] [] a b not_out some = absurd (some refl)

touched_one : (e end : EndpointId) → (same_end e end || false) ≡ true → e ≡ end
touched_one e end h = by_test (same_end e end) refl h
  where
    by_test : (b : Bool) → same_end e end ≡ b → (b || false) ≡ true → e ≡ end
    by_test true is k = same_end-is e end is
    by_test false is k = absurd (true≢false (sym k))

binds_low : (s : ScenarioLists) (past : List Entry) (event : Event) (o : Outcome) (e : EndpointId) → IsHistory (layout_of s) past →
    o ≡ outcome_of (layout_of s) past event → is_last_in s past event o ≡ false → list_any (same_end e) (ends_touched event o) ≡ true →
    BindsLow (MayBounce s) (state_of (layout_of s) past e) event o
binds_low s past (Events.Bind node end) (Out.Sent m peer channel seq attempt number) e h is last at =
    let layout : Layout = layout_of s in
    let same : e ≡ end = touched_one e end at in
    let all : BouncesAreRequeues layout past = bounces_are layout past h in
    let not_out : is_bounced_out s.bounces (front (state_of layout past end)) ≡ false =
    (or_parts (attempt + 1 == s.tries) (is_bounced_out s.bounces (front (state_of layout past end))) last).1 in
    let some : front (state_of layout past end) ≡ None → ⊥ = λ none. (let both : Out.Sent m peer channel seq attempt number ≡ Out.Silent = is
    ∙ ap (bind layout node past) none in cc) in
    subst (λ (i : EndpointId). bounces_of (state_of layout past i).body.replies (state_of layout past i).body.requests < s.bounces) (sym same)
    (front_bounces s past (state_of layout past end).body.replies (state_of layout past end).body.requests (all.replies end) (all.requests end) not_out some)
binds_low s past event o e h is last at = tt

pub low_more : (s : ScenarioLists) (past : List Entry) (x : Entry) → IsOfRun s past → MayFollow (layout_of s) past x → is_last s past x ≡ false →
    AreFine (MayBounce s) (layout_of s) past → AreFine (MayBounce s) (layout_of s) (past ++ x ∷ [])
low_more s past x run may last k =
    fine_more (MayBounce s) (layout_of s) past x (of_packets s run.packet) may (λ e at. binds_low s past x.event x.outcome e run.history may.outcome last at) k

-- ---- so a message that is bound may

none_counted : (p : Flying → Bool) (fs : List Flying) → find p fs ≡ None → count_by p fs ≡ 0
none_counted p [] e = refl
none_counted p (f ∷ fs) e = by_test (p f) e (sum_by-cons (λ (g : Flying). let n : ℕ = cond (p g) 1 0 in n) f fs) (none_counted p fs)
  where
    by_test : (b : Bool) → cond b (Some f) (find p fs) ≡ None → count_by p (f ∷ fs) ≡ cond b 1 0 + count_by p fs → (find p fs ≡ None → count_by p fs ≡ 0) →
        count_by p (f ∷ fs) ≡ 0
    by_test true is step rest = absurd (cc)
    by_test false is step rest = omega (arith, step, rest is)

flight_low : (s : ScenarioLists) (m : Message) (fs : List Flying) (o : Option Flying) → flying_of m.serial fs ≡ o →
    count_by (λ (f : Flying). has_serial m.serial f.message) fs ≡ 1 → AllAre (IsLow (MayBounce s)) fs → bounced o < s.bounces
flight_low s m fs None is one all = absurd (omega (arith, one, none_counted (λ (f : Flying). has_serial m.serial f.message) fs is))
flight_low s m fs (Some f) is one all = all_found (IsLow (MayBounce s)) (λ (g : Flying). has_serial m.serial g.message) fs f is all

pub bound_low : (s : ScenarioLists) (past : List Entry) (c : Channel) (m : Message) → IsOfRun s past → AreFine (MayBounce s) (layout_of s) past →
    bound_message c past ≡ Some m → nat_lt (bounced (flying_of m.serial (state_of (layout_of s) past m.serial.source).body.in_flight)) s.bounces ≡ true
bound_low s past c m run k bound =
    let layout : Layout = layout_of s in
    let flies = (in_flight_bound layout (lawful_layout s run.lawful) past run.history).flies c m bound in
    lt-ltb (bounced (flying_of m.serial (state_of layout past m.serial.source).body.in_flight)) s.bounces
    (flight_low s m (state_of layout past m.serial.source).body.in_flight (flying_of m.serial (state_of layout past m.serial.source).body.in_flight) refl
    flies.one (k m.serial.source).flights)
