-- What a receiving end takes, and what its mark then says.
use Rattle.std.specs.Prelude.{nat_le, slice_get}
use Rattle.std.proofs.Common.{◌≡◌, ◌≢◌, ◌⊎◌, inl, inr, ⊎_elim, ◌==◌, ℕ, ◌-◌, ◌≤◌, ◌<◌, Bool, true, false, ◌&&◌, ◌||◌, List, [], ◌∷◌, ◌++◌, Option, Some, None}
use Rattle.std.proofs.Common.{refl, sym, ap, ◌∙◌, subst, arith, eqb-true, eq-eqb, leb-true, true≢false, if◌then◌else◌}
use Rattle.std.proofs.lemmas.Bool.{and_parts}
use Rattle.std.proofs.lemmas.List.Folds.{list_any-append}
use Rattle.am_names.specs.declared.NodeId.{NodeId}
use Rattle.am_names.specs.declared.Serial.{Serial}
use Rattle.am_names.specs.declared.Verdict.{Verdict}
use Rattle.am_names.specs.declared.Verdict.TheVariants as Verdicts
use Rattle.am_names.specs.declared.Message.{Message}
use Rattle.am_names.specs.declared.Parcel.{Parcel}
use Rattle.am_names.specs.declared.Packet.{Packet}
use Rattle.am_names.specs.declared.Packet.TheVariants as Packets
use Rattle.am_office_entries.specs.declared.Event.{Event}
use Rattle.am_office_entries.specs.declared.Event.TheVariants as Events
use Rattle.am_office_entries.specs.declared.Received.{Received}
use Rattle.am_office_entries.specs.declared.Received.TheVariants as Got
use Rattle.am_office_entries.specs.declared.Outcome.{Outcome}
use Rattle.am_office_entries.specs.declared.Outcome.TheVariants as Out
use Rattle.am_office_entries.specs.declared.Entry.{Entry}
use Rattle.am_names.specs.Names.{has_serial}
use Rattle.am_model.specs.Endpoint.{verdict}
use Rattle.am_model.specs.Calls.{answer}
use Rattle.am_office_entries.specs.Entries.{put_in, put_of, passes}
use Rattle.am_model.specs.Layout.{Layout}
use Rattle.am_model.specs.Channels.{Channel, Arrival, Stale, Again, Fresh, bound_message, emitted, arrival, mark, attempt}
use Rattle.am_model.specs.History.{state_of, MayFollow, IsHistory, outcome_of, receive, arrive, decided, settle, channel_to, next_number}
use Rattle.am_model.specs.PostOffice.{times, Gave}
use Rattle.am_model.proofs.Each.{over_each}
use Rattle.am_model.proofs.Names.{same_serial-refl}
use Rattle.am_model.proofs.Received.{bit}
use Rattle.am_model.proofs.Books.{role_push}
use Rattle.std.proofs.Common.{le-leb}
use mathlib.Core.Bool.{or-false}
use Rattle.am_model.specs.Channels.{Mark, same_channel, decides_by}
use Rattle.am_model.specs.Cluster.{has_put, puts_in, puts_by, HasComeTo, put_on, put_on_in, parcel_channel, other_end}
use Rattle.am_model.proofs.Ends.{EmittedIn, was_emitted, mark_push}
use Rattle.am_laws.proofs.Senders.{same_channel-is}
use Rattle.am_laws.proofs.Marks.{IsPast, Decides, MarkMoves, mark_moves, mark_after, link_of, fresh_means, settle_decides}
use Rattle.am_laws.proofs.Alls.{gave_more, gave_now}
use Rattle.am_laws_cluster.proofs.Sent.{emitted_later}

-- a receiving end takes a message
pub record IsTaking (past : List Entry) (d : Channel) (k most : ℕ) (event : Event) (o : Outcome) : Type 0 where
  pub by : Parcel
  pub emitted : EmittedIn (Packets.Parcel by) past
  pub on : parcel_channel by ≡ other_end d
  pub seq : k ≡ by.seq
  pub low : by.attempt ≤ most
  pub fresh : IsPast (mark d past) by.seq by.attempt
  pub puts : put_in event o ≡ Some by.message
  pub puts_on : put_on_in d k event o ≡ Some by.message
  pub marked : mark_after d (mark d past) event o ≡ record { seq = by.seq; attempt = by.attempt; verdict = Verdicts.Accepted }

takes_decides : (r : Received) → puts_by r ≡ true → decides_by r ≡ true
takes_decides (Got.Accepted m answer) h = refl
takes_decides r h = absurd (true≢false (sym h))

arrive_takes : (layout : Layout) (past : List Entry) (d : Channel) (k most : ℕ) (node peer : NodeId) (number : ℕ) (p : Parcel) (reply : ℕ) (a : Arrival) →
    arrival (mark (channel_to node peer p.channel) past) p.seq p.attempt ≡ a → EmittedIn (Packets.Parcel p) past → (p.from ≡ peer) × (p.to ≡ node) →
    puts_in d k most (Events.Receive node peer number) (Out.Received p.channel p.seq p.attempt (arrive layout past p.message reply a)) ≡ true →
    IsTaking past d k most (Events.Receive node peer number) (Out.Received p.channel p.seq p.attempt (arrive layout past p.message reply a))
arrive_takes layout past d k most node peer number p reply Stale is here link h = absurd (true≢false (sym h))
arrive_takes layout past d k most node peer number p reply (Again v) is here link h = absurd (true≢false (sym h))
arrive_takes layout past d k most node peer number p reply Fresh is here link h = by_verdict (verdict (state_of layout past p.message.dest) p.message) h
  where
    by_verdict : (v : Verdict) → puts_in d k most (Events.Receive node peer number) (Out.Received p.channel p.seq p.attempt (decided p.message reply v)) ≡
        true → IsTaking past d k most (Events.Receive node peer number) (Out.Received p.channel p.seq p.attempt (decided p.message reply v))
    by_verdict Verdicts.Accepted e =
        let outer = and_parts ((true && same_channel d node peer p.channel) && (k == p.seq)) (nat_le p.attempt most) e in
        let inner = and_parts (true && same_channel d node peer p.channel) (k == p.seq) outer.0 in
        let on : same_channel d node peer p.channel ≡ true = (and_parts true (same_channel d node peer p.channel) inner.0).1 in
        let same : d ≡ channel_to node peer p.channel = same_channel-is d node peer p.channel on in
        record {
          by = p;
          emitted = here;
          on = (λ i. channel_to (link.0 i) (link.1 i) p.channel) ∙ sym (ap other_end same);
          seq = eqb-true k p.seq inner.1;
          low = leb-true p.attempt most outer.1;
          fresh = subst (λ (w : Channel). IsPast (mark w past) p.seq p.attempt) (sym same)
              (fresh_means (mark (channel_to node peer p.channel) past) p.seq p.attempt is);
          puts = refl;
          puts_on = λ i. if on i && inner.1 i then Some p.message else None;
          marked = ap (λ (b : Bool). if b then record { seq = p.seq; attempt = p.attempt; verdict = Verdicts.Accepted } else mark d past) on;
        }
    by_verdict (Verdicts.Refused cause) e = absurd (true≢false (sym e))

receive_takes : (layout : Layout) (past : List Entry) (d : Channel) (k most : ℕ) (node peer : NodeId) (number i : ℕ) (p : Option Packet) →
    slice_get (emitted peer node past) i ≡ p → puts_in d k most (Events.Receive node peer number) (receive layout node peer past p) ≡ true →
    IsTaking past d k most (Events.Receive node peer number) (receive layout node peer past p)
receive_takes layout past d k most node peer number i None is h = absurd (true≢false (sym h))
receive_takes layout past d k most node peer number i (Some (Packets.Parcel p)) is h =
    let was = was_emitted peer node past i (Packets.Parcel p) is in
    arrive_takes layout past d k most node peer number p (next_number node peer past) (arrival (mark (channel_to node peer p.channel) past) p.seq p.attempt)
    refl was.0 (link_of peer node p was.1) h
receive_takes layout past d k most node peer number i (Some (Packets.Answer a)) is h =
    let r : Received = settle layout (channel_to node peer a.channel) past a (bound_message (channel_to node peer a.channel) past) in
    let outer = and_parts ((puts_by (settle layout (channel_to node peer a.channel) past a (bound_message (channel_to node peer a.channel) past)) &&
    same_channel d node peer a.channel) && (k == a.seq)) (nat_le a.attempt most) h in
    let inner = and_parts (puts_by (settle layout (channel_to node peer a.channel) past a (bound_message (channel_to node peer a.channel) past)) && same_channel
    d node peer a.channel) (k == a.seq) outer.0 in
    let takes = (and_parts (puts_by (settle layout (channel_to node peer a.channel) past a (bound_message (channel_to node peer a.channel) past)))
    (same_channel d node peer a.channel) inner.0).0 in
    absurd (true≢false (sym (takes_decides (settle layout (channel_to node peer a.channel) past a (bound_message (channel_to node peer a.channel) past)) takes)
    ∙ settle_decides layout (channel_to node peer a.channel) past a (bound_message (channel_to node peer a.channel) past)))

event_takes : (layout : Layout) (past : List Entry) (d : Channel) (k most : ℕ) (event : Event) → puts_in d k most event (outcome_of layout past event) ≡ true →
    IsTaking past d k most event (outcome_of layout past event)
event_takes layout past d k most (Events.Receive node peer number) h =
    receive_takes layout past d k most node peer number (number - 1) (slice_get (emitted peer node past) (number - 1)) refl h
event_takes layout past d k most event h = absurd (true≢false (sym h))

pub takes_is : (layout : Layout) (past : List Entry) (x : Entry) → MayFollow layout past x → (d : Channel) (k most : ℕ) →
    puts_in d k most x.event x.outcome ≡ true → IsTaking past d k most x.event x.outcome
takes_is layout past x may d k most h =
    subst (λ (o : Outcome). IsTaking past d k most x.event o) (sym may.outcome)
    (event_takes layout past d k most x.event (ap (puts_in d k most x.event) (sym may.outcome) ∙ h))

pub took_push : (d : Channel) (k most : ℕ) (past : List Entry) (x : Entry) →
    has_put d k most (past ++ x ∷ []) ≡ (has_put d k most past || puts_in d k most x.event x.outcome)
took_push d k most past x =
    list_any-append (λ (y : Entry). puts_in d k most y.event y.outcome) past (x ∷ [])
    ∙ ap (λ (b : Bool). has_put d k most past || b) (or-false (puts_in d k most x.event x.outcome))

pub took_later : (d : Channel) (k most : ℕ) (past : List Entry) (x : Entry) → has_put d k most past ≡ true → has_put d k most (past ++ x ∷ []) ≡ true
took_later d k most past x h = took_push d k most past x ∙ ap (λ (b : Bool). b || puts_in d k most x.event x.outcome) h

either : (a b : Bool) → (a || b) ≡ true → (a ≡ true) ⊎ (b ≡ true)
either true b h = inl refl
either false b h = inr h

pub took_or_now : (d : Channel) (k most : ℕ) (past : List Entry) (x : Entry) → has_put d k most (past ++ x ∷ []) ≡ true →
    (has_put d k most past ≡ true) ⊎ (puts_in d k most x.event x.outcome ≡ true)
took_or_now d k most past x h = either (has_put d k most past) (puts_in d k most x.event x.outcome) (sym (took_push d k most past x) ∙ h)

-- the mark as it is after one entry more
pub mark_then : (layout : Layout) (past : List Entry) (x : Entry) (d : Channel) → mark d (past ++ x ∷ []) ≡ mark_after d (mark d past) x.event x.outcome
mark_then layout past x d = mark_push d past x _ refl

-- an end that accepts now takes a message now
accepted_now : (d : Channel) (m : Mark) (event : Event) (o : Outcome) → (mark_after d m event o).verdict ≡ Verdicts.Accepted →
    (mark_after d m event o ≡ m) ⊎ (puts_in d (mark_after d m event o).seq (mark_after d m event o).attempt event o ≡ true)
accepted_now d m (Events.Receive node peer number) (Out.Received channel seq attempt (Got.Accepted n answer)) h = by_test (same_channel d node peer channel)
  where
    by_test : (t : Bool) → let new = if t then record { seq = seq; attempt = attempt; verdict = Verdicts.Accepted } else m in
        (new ≡ m) ⊎ ((((true && t) && (new.seq == seq)) && nat_le attempt new.attempt) ≡ true)
    by_test true = inr ((λ i. eq-eqb seq seq refl i && le-leb attempt attempt (omega arith) i))
    by_test false = inl refl
accepted_now d m (Events.Receive node peer number) (Out.Received channel seq attempt (Got.Refused n cause answer)) h =
    by_test (same_channel d node peer channel) h
  where
    by_test : (t : Bool) → let new = if t then record { seq = seq; attempt = attempt; verdict = Verdicts.Refused cause } else m in
        new.verdict ≡ Verdicts.Accepted → (new ≡ m) ⊎ (puts_in d new.seq new.attempt (Events.Receive node peer number)
        (Out.Received channel seq attempt (Got.Refused n cause answer)) ≡ true)
    by_test true e = absurd (cc)
    by_test false e = inl refl
accepted_now d m (Events.Receive node peer number) (Out.Received channel seq attempt r) h = inl refl
accepted_now d m event o h = inl refl

-- a sequence whose message was taken
pub record IsTaken (past : List Entry) (d : Channel) (k : ℕ) : Type 0 where
  pub by : Parcel
  pub emitted : EmittedIn (Packets.Parcel by) past
  pub on : parcel_channel by ≡ other_end d
  pub seq : by.seq ≡ k
  pub put' : 1 ≤ times put_of (has_serial by.message.serial) past
  pub put_there : Gave (put_on d k) past by.message

-- what is known of all that was taken
pub record Takings (past : List Entry) : Type 0 where
  pub accepted : (d : Channel) → (mark d past).verdict ≡ Verdicts.Accepted → has_put d (mark d past).seq (mark d past).attempt past ≡ true
  pub stands : (d : Channel) (k most : ℕ) → has_put d k most past ≡ true →
      (k < (mark d past).seq) ⊎ ((k ≡ (mark d past).seq) × ((mark d past).attempt ≤ most) × ((mark d past).verdict ≡ Verdicts.Accepted))
  pub parcel : (d : Channel) (k most : ℕ) → has_put d k most past ≡ true → IsTaken past d k

stands_on : (past : List Entry) (d : Channel) (old new : Mark) (k most : ℕ) → MarkMoves past old new d →
    (k < old.seq) ⊎ ((k ≡ old.seq) × (old.attempt ≤ most) × (old.verdict ≡ Verdicts.Accepted)) →
    (k < new.seq) ⊎ ((k ≡ new.seq) × (new.attempt ≤ most) × (new.verdict ≡ Verdicts.Accepted))
stands_on past d old new k most moves h =
    ⊎_elim
    (λ (same : new ≡ old). subst (λ (m : Mark). (k < m.seq) ⊎ ((k ≡ m.seq) × (m.attempt ≤ most) × (m.verdict ≡ Verdicts.Accepted))) (sym same) h)
    (λ (by : Decides past old new d).
    ⊎_elim
    (λ (above : old.seq < by.by.seq).
    ⊎_elim
    (λ (low : k < old.seq). inl (omega (arith, low, above, by.seq)))
    (λ (at : (k ≡ old.seq) × (old.attempt ≤ most) × (old.verdict ≡ Verdicts.Accepted)). inl (omega (arith, at.0, above, by.seq)))
    h)
    (λ (there : (by.by.seq ≡ old.seq) × (old.attempt < by.by.attempt) × (old.verdict ≢ Verdicts.Accepted)).
    ⊎_elim
    (λ (low : k < old.seq). inl (omega (arith, low, there.0, by.seq)))
    (λ (at : (k ≡ old.seq) × (old.attempt ≤ most) × (old.verdict ≡ Verdicts.Accepted)). absurd (there.2 at.2))
    h)
    by.fresh)
    moves

takings_more : (layout : Layout) (past : List Entry) (x : Entry) → Takings past → MayFollow layout past x → Takings (past ++ x ∷ [])
takings_more layout past x t may = record { accepted = accepted; stands = stands; parcel = parcel }
  where
    accepted : (d : Channel) → (mark d (past ++ x ∷ [])).verdict ≡ Verdicts.Accepted →
        has_put d (mark d (past ++ x ∷ [])).seq (mark d (past ++ x ∷ [])).attempt (past ++ x ∷ []) ≡ true
    accepted d h =
        let new = mark_then layout past x d in
        subst (λ (m : Mark). has_put d m.seq m.attempt (past ++ x ∷ []) ≡ true) (sym new)
        (by_now d (subst (λ (m : Mark). m.verdict ≡ Verdicts.Accepted) new h))
      where
        by_now : (d : Channel) → (mark_after d (mark d past) x.event x.outcome).verdict ≡ Verdicts.Accepted →
            has_put d (mark_after d (mark d past) x.event x.outcome).seq (mark_after d (mark d past) x.event x.outcome).attempt (past ++ x ∷ []) ≡ true
        by_now d e =
            ⊎_elim
            (λ (same : mark_after d (mark d past) x.event x.outcome ≡ mark d past).
            subst (λ (m : Mark). has_put d m.seq m.attempt (past ++ x ∷ []) ≡ true) (sym same)
            (took_later d (mark d past).seq (mark d past).attempt past x (t.accepted d (ap (λ (m : Mark). m.verdict) (sym same) ∙ e))))
            (λ (now : puts_in d (mark_after d (mark d past) x.event x.outcome).seq (mark_after d (mark d past) x.event x.outcome).attempt x.event x.outcome ≡
            true).
            took_push d (mark_after d (mark d past) x.event x.outcome).seq (mark_after d (mark d past) x.event x.outcome).attempt past x
            ∙ ap (λ (b : Bool). has_put d (mark_after d (mark d past) x.event x.outcome).seq (mark_after d (mark d past) x.event x.outcome).attempt past || b)
            now
            ∙ or_true (has_put d (mark_after d (mark d past) x.event x.outcome).seq (mark_after d (mark d past) x.event x.outcome).attempt past))
            (accepted_now d (mark d past) x.event x.outcome e)
          where
            or_true : (b : Bool) → (b || true) ≡ true
            or_true true = refl
            or_true false = refl

    stands : (d : Channel) (k most : ℕ) → has_put d k most (past ++ x ∷ []) ≡ true →
        (k < (mark d (past ++ x ∷ [])).seq) ⊎ ((k ≡ (mark d (past ++ x ∷ [])).seq) × ((mark d (past ++ x ∷ [])).attempt ≤ most) ×
        ((mark d (past ++ x ∷ [])).verdict ≡ Verdicts.Accepted))
    stands d k most h =
        ⊎_elim
        (λ (before : has_put d k most past ≡ true). stands_on past d (mark d past) (mark d (past ++ x ∷ [])) k most (mark_moves layout d past x may)
        (t.stands d k most before))
        (λ (now : puts_in d k most x.event x.outcome ≡ true).
        let g = takes_is layout past x may d k most now in
        let new : mark d (past ++ x ∷ []) ≡ record { seq = g.by.seq; attempt = g.by.attempt; verdict = Verdicts.Accepted } = mark_then layout past x d
        ∙ g.marked in
        inr (g.seq ∙ sym (ap (λ (m : Mark). m.seq) new), omega (arith, g.low, ap (λ (m : Mark). m.attempt) new), ap (λ (m : Mark). m.verdict) new))
        (took_or_now d k most past x h)

    more : (s : Serial) → 1 ≤ times put_of (has_serial s) past → 1 ≤ times put_of (has_serial s) (past ++ x ∷ [])
    more s low = omega (arith, low, role_push put_in (has_serial s) past x)

    parcel : (d : Channel) (k most : ℕ) → has_put d k most (past ++ x ∷ []) ≡ true → IsTaken (past ++ x ∷ []) d k
    parcel d k most h =
        ⊎_elim
        (λ (before : has_put d k most past ≡ true).
        let r = t.parcel d k most before in
        record {
          by = r.by;
          emitted = emitted_later (Packets.Parcel r.by) past x r.emitted;
          on = r.on;
          seq = r.seq;
          put' = more r.by.message.serial r.put';
          put_there = gave_more (put_on d k) past x r.by.message r.put_there;
        })
        (λ (now : puts_in d k most x.event x.outcome ≡ true).
        let g = takes_is layout past x may d k most now in
        let one' : bit (passes (has_serial g.by.message.serial) (put_of x)) ≡ 1 =
        ap (λ (o : Option Message). bit (passes (has_serial g.by.message.serial) o)) g.puts ∙ ap bit (same_serial-refl g.by.message.serial) in
        record {
          by = g.by;
          emitted = emitted_later (Packets.Parcel g.by) past x g.emitted;
          on = g.on;
          seq = sym g.seq;
          put' = omega (arith, one', role_push put_in (has_serial g.by.message.serial) past x);
          put_there = gave_now (put_on d k) past x g.by.message g.puts_on;
        })
        (took_or_now d k most past x h)

pub takings : (layout : Layout) (past : List Entry) → IsHistory layout past → Takings past
takings layout past h =
    over_each (MayFollow layout) Takings (λ xs x k may. takings_more layout xs x k may) []
    past (record { accepted = λ d e. absurd (cc); stands = λ d k most e. absurd (true≢false (sym e)); parcel = λ d k most e. absurd (true≢false (sym e)) }) h

-- a mark that has come so far takes no packet of this sequence and attempt
pub come_past : (m : Mark) (k t j : ℕ) → HasComeTo m k t → IsPast m k j → j ≤ t → ⊥
come_past m k t j come fresh low =
    ⊎_elim
    (λ (above : k < m.seq). ⊎_elim (λ (f : m.seq < k). omega (arith, above, f)) (λ (f : (k ≡ m.seq) × (m.attempt < j) × (m.verdict ≢ Verdicts.Accepted)). omega
    (arith, above, f.0)) fresh)
    (λ (at : (k ≡ m.seq) × (t ≤ m.attempt)). ⊎_elim (λ (f : m.seq < k). omega (arith, at.0, f))
    (λ (f : (k ≡ m.seq) × (m.attempt < j) × (m.verdict ≢ Verdicts.Accepted)). omega (arith, at.1, f.1, low)) fresh)
    come

-- marks never go back
pub come_on : (past : List Entry) (d : Channel) (old new : Mark) (k t : ℕ) → MarkMoves past old new d → HasComeTo old k t → HasComeTo new k t
come_on past d old new k t moves h =
    ⊎_elim
    (λ (same : new ≡ old). subst (λ (m : Mark). HasComeTo m k t) (sym same) h)
    (λ (by : Decides past old new d).
    ⊎_elim
    (λ (above : old.seq < by.by.seq).
    ⊎_elim (λ (low : k < old.seq). inl (omega (arith, low, above, by.seq))) (λ (at : (k ≡ old.seq) × (t ≤ old.attempt)). inl
    (omega (arith, at.0, above, by.seq))) h)
    (λ (there : (by.by.seq ≡ old.seq) × (old.attempt < by.by.attempt) × (old.verdict ≢ Verdicts.Accepted)).
    ⊎_elim (λ (low : k < old.seq). inl (omega (arith, low, there.0, by.seq))) (λ (at : (k ≡ old.seq) × (t ≤ old.attempt)). inr
    (omega (arith, at.0, there.0, by.seq), omega (arith, at.1, there.1, by.attempt))) h)
    by.fresh)
    moves
