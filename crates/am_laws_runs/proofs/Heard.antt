-- A parcel that was received isn't taken for fresh again.
use Rattle.std.specs.Prelude.{slice_get, nat_lt, ◌==◌, ◌||◌, if◌then◌else◌}
use Rattle.std.specs.List.{cons_option}
use Rattle.std.proofs.Common.{◌≡◌, ◌≢◌, ⊎_elim, ℕ, ◌-◌, ◌<◌, Bool, true, false, List, [], ◌∷◌, ◌++◌, Some, refl, sym, ap, ◌∙◌, subst, arith, ltb-true, eqb-true}
use Rattle.am_names.specs.declared.Packet.TheVariants as Packets
use Rattle.am_names.specs.declared.Parcel.{Parcel}
use Rattle.am_names.specs.declared.Verdict.{Verdict}
use Rattle.am_names.specs.declared.Verdict.TheVariants as Verdicts
use Rattle.am_office_entries.specs.declared.Entry.{Entry}
use Rattle.am_office_entries.specs.declared.Event.{Event}
use Rattle.am_office_entries.specs.declared.Event.TheVariants as Events
use Rattle.am_office_entries.specs.declared.Outcome.TheVariants as Out
use Rattle.am_office_entries.specs.Entries.{emitted_of}
use Rattle.am_model.specs.Channels.{Channel, Mark, Arrival, Stale, Again, Fresh, arrival, arrival_at, mark, mark_in, decides, emitted}
use Rattle.am_model.specs.Endpoint.{verdict}
use Rattle.am_model.specs.History.{MayFollow, IsHistory, state_of, outcome_of, receive, arrive, decided, next_number, channel_to}
use Rattle.am_model.specs.Layout.{Layout}
use Rattle.am_model.proofs.Each.{over_each, each_push}
use Rattle.am_model.proofs.Ends.{EmittedIn, emitted_more, mark_push}
use Rattle.am_laws.proofs.Marks.{IsPast}
use Rattle.am_laws.proofs.Puts.{IsFresh, fresh_before}
use Rattle.am_model_scripts.specs.Links.{number_received, received}
use Rattle.am_model_scripts.proofs.Links.{received_push}
use Rattle.am_laws_runs.specs.Turns.Endings.{is_among}
use Rattle.am_laws_runs.proofs.TurnCounts.{among_append, counted, not_yet, received_now}
use Rattle.am_laws_runs.proofs.Zone.{decides_now, decided_mark, not_past}

-- what comes past a mark is fresh there
past_fresh : (m : Mark) (v : Verdict) (seq attempt : ℕ) → m.verdict ≡ v → IsPast m seq attempt → arrival_at m v seq attempt ≡ Fresh
past_fresh m Verdicts.Accepted seq attempt is h = by_tests (nat_lt seq m.seq) (seq == m.seq) refl refl
  where
    by_tests : (a b : Bool) → nat_lt seq m.seq ≡ a → (seq == m.seq) ≡ b → (if a then Stale else (if b then Again Verdicts.Accepted else Fresh)) ≡ Fresh
    by_tests true b lt eq =
        let low : seq < m.seq = ltb-true seq m.seq lt in
        absurd (⊎_elim (λ (above : m.seq < seq). omega (arith, low, above)) (λ (at : (seq ≡ m.seq) × (m.attempt < attempt) × (m.verdict ≢ Verdicts.Accepted)).
        omega (arith, low, at.0)) h)
    by_tests false true lt eq =
        let same : seq ≡ m.seq = eqb-true seq m.seq eq in
        absurd (⊎_elim (λ (above : m.seq < seq). omega (arith, same, above)) (λ (at : (seq ≡ m.seq) × (m.attempt < attempt) × (m.verdict ≢ Verdicts.Accepted)).
        at.2 is) h)
    by_tests false false lt eq = refl
past_fresh m (Verdicts.Refused cause) seq attempt is h = by_tests (nat_lt seq m.seq) (seq == m.seq) (nat_lt attempt m.attempt) (attempt ==
    m.attempt) refl refl refl refl
  where
    by_tests : (a b c d : Bool) → nat_lt seq m.seq ≡ a → (seq == m.seq) ≡ b → nat_lt attempt m.attempt ≡ c → (attempt == m.attempt) ≡ d →
        (if a then Stale else (if b then (if c then Stale else (if d then Again (Verdicts.Refused cause) else Fresh)) else Fresh)) ≡ Fresh
    by_tests true b c d lt eq lta eqa =
        let low : seq < m.seq = ltb-true seq m.seq lt in
        absurd (⊎_elim (λ (above : m.seq < seq). omega (arith, low, above)) (λ (at : (seq ≡ m.seq) × (m.attempt < attempt) × (m.verdict ≢ Verdicts.Accepted)).
        omega (arith, low, at.0)) h)
    by_tests false true true d lt eq lta eqa =
        let same : seq ≡ m.seq = eqb-true seq m.seq eq in
        let low : attempt < m.attempt = ltb-true attempt m.attempt lta in
        absurd (⊎_elim (λ (above : m.seq < seq). omega (arith, same, above)) (λ (at : (seq ≡ m.seq) × (m.attempt < attempt) × (m.verdict ≢ Verdicts.Accepted)).
        omega (arith, low, at.1)) h)
    by_tests false true false true lt eq lta eqa =
        let same : seq ≡ m.seq = eqb-true seq m.seq eq in
        let equal : attempt ≡ m.attempt = eqb-true attempt m.attempt eqa in
        absurd (⊎_elim (λ (above : m.seq < seq). omega (arith, same, above)) (λ (at : (seq ≡ m.seq) × (m.attempt < attempt) × (m.verdict ≢ Verdicts.Accepted)).
        omega (arith, equal, at.1)) h)
    by_tests false true false false lt eq lta eqa = refl
    by_tests false false c d lt eq lta eqa = refl

-- the receipt of a parcel leaves it no longer fresh
heard_now : (layout : Layout) (past : List Entry) (x : Entry) (p : Parcel) → IsHistory layout past → MayFollow layout past x →
    EmittedIn (Packets.Parcel p) past → x.event ≡ Events.Receive p.to p.from p.number → IsFresh (past ++ x ∷ []) p → ⊥
heard_now layout past x p h may old ev fresh =
    let at : slice_get (emitted p.from p.to past) (p.number - 1) ≡ Some (Packets.Parcel p) = (counted layout past h).placed (Packets.Parcel p) old in
    let before : IsFresh past p = fresh_before layout past x may p fresh in
    let arrives : arrival (mark d past) p.seq p.attempt ≡ Fresh = past_fresh (mark d past) (mark d past).verdict p.seq p.attempt refl before in
    let outcome' : x.outcome ≡ Out.Received p.channel p.seq p.attempt (decided p.message (next_number p.to p.from past)
    (verdict (state_of layout past p.message.dest) p.message)) =
    may.outcome ∙ (ap (outcome_of layout past) ev ∙ (ap (receive layout p.to p.from past) at
    ∙ ap (λ (a : Arrival). Out.Received p.channel p.seq p.attempt (arrive layout past p.message (next_number p.to p.from past) a)) arrives)) in
    let decided' : decides d x.event x.outcome ≡ true =
    ap (λ (v : Event). decides d v x.outcome) ev ∙ (ap (decides d (Events.Receive p.to p.from p.number)) outcome'
    ∙ decides_now p.to p.from p.number p.channel p.seq p.attempt p.message (next_number p.to p.from past)
    (verdict (state_of layout past p.message.dest) p.message)) in
    let marked : mark d (past ++ x ∷ []) ≡ record { seq = p.seq; attempt = p.attempt; verdict = verdict (state_of layout past p.message.dest) p.message } =
    mark_push d past x true decided' ∙ (ap mark_in outcome' ∙ decided_mark p.channel p.seq p.attempt p.message (next_number p.to p.from past)
    (verdict (state_of layout past p.message.dest) p.message)) in
    not_past (verdict (state_of layout past p.message.dest) p.message) p.seq p.attempt (subst (λ (m : Mark). IsPast m p.seq p.attempt) marked fresh)
  where
    d : Channel
    d = channel_to p.to p.from p.channel

abbrev pub AreHeard : List Entry → Type 0
AreHeard past = (p : Parcel) → EmittedIn (Packets.Parcel p) past → is_among p.number (received p.from p.to past) ≡ true → IsFresh past p → ⊥

record Hears (layout : Layout) (past : List Entry) : Type 0 where
  history : IsHistory layout past
  heard : AreHeard past

heard_more : (layout : Layout) (past : List Entry) (x : Entry) → Hears layout past → MayFollow layout past x → AreHeard (past ++ x ∷ [])
heard_more layout past x k may p there got fresh =
    ⊎_elim
    (λ (old : EmittedIn (Packets.Parcel p) past).
    by_test old (is_among p.number (received p.from p.to past)) refl (sym (ap (is_among p.number) (received_push p.from p.to past x)
    ∙ among_append p.number (received p.from p.to past) (cons_option (number_received p.from p.to x.event) [])) ∙ got))
    (λ (new : emitted_of x ≡ Some (Packets.Parcel p)). not_yet layout past x k.history may (Packets.Parcel p) new got)
    (emitted_more (Packets.Parcel p) past x there)
  where
    by_test : EmittedIn (Packets.Parcel p) past → (b : Bool) → is_among p.number (received p.from p.to past) ≡ b →
        (b || is_among p.number (cons_option (number_received p.from p.to x.event) [])) ≡ true → ⊥
    by_test old true is j = k.heard p old is (fresh_before layout past x may p fresh)
    by_test old false is j = heard_now layout past x p k.history may old (received_now p.from p.to p.number x.event j) fresh

-- in each history
pub are_heard : (layout : Layout) (past : List Entry) → IsHistory layout past → AreHeard past
are_heard layout past h = hears.heard
  where
    hears : Hears layout past
    hears =
        over_each (MayFollow layout) (λ xs. Hears layout xs)
        (λ xs x k may. record { history = each_push (MayFollow layout) [] xs x k.history may; heard = heard_more layout xs x k may })
        [] past (record { history = tt; heard = λ p there got fresh. absurd there }) h
