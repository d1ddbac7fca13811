-- What is put is a fresh parcel, and marks never go back.
use Rattle.std.specs.Prelude.{nat_lt, slice_get}
use Rattle.std.proofs.Common.{◌≡◌, ◌≢◌, inl, inr, ⊎_elim, ◌==◌, ℕ, ◌+◌, ◌-◌, ◌<◌, Bool, true, false, ◌&&◌, List, [], ◌∷◌, ◌++◌, Option, Some, None, refl, sym}
use Rattle.std.proofs.Common.{ap, ◌∙◌, subst, arith, true≢false, if◌then◌else◌}
use Rattle.std.proofs.lemmas.Bool.{and_parts}
use Rattle.am_names.specs.Rules.{is_transient}
use Rattle.am_names.specs.declared.NodeId.{NodeId}
use Rattle.am_names.specs.declared.Message.{Message}
use Rattle.am_names.specs.declared.Cause.{Cause}
use Rattle.am_names.specs.declared.Verdict.{Verdict}
use Rattle.am_names.specs.declared.Verdict.TheVariants as Verdicts
use Rattle.am_names.specs.declared.Parcel.{Parcel}
use Rattle.am_names.specs.declared.AnswerPacket.{AnswerPacket}
use Rattle.am_names.specs.declared.Packet.{Packet}
use Rattle.am_names.specs.declared.Packet.TheVariants as Packets
use Rattle.am_office_entries.specs.declared.Event.{Event}
use Rattle.am_office_entries.specs.declared.Event.TheVariants as Events
use Rattle.am_office_entries.specs.declared.Received.TheVariants as Got
use Rattle.am_office_entries.specs.declared.Outcome.{Outcome}
use Rattle.am_office_entries.specs.declared.Outcome.TheVariants as Out
use Rattle.am_office_entries.specs.declared.Entry.{Entry}
use Rattle.am_names.specs.Names.{same_node}
use Rattle.am_model.specs.Endpoint.{verdict}
use Rattle.am_model.specs.Layout.{Layout}
use Rattle.am_model.specs.Channels.{Channel, Mark, same_channel, sequence, bound_message, attempt, mark, emitted, is_on_link, Arrival, Stale, Again, Fresh}
use Rattle.am_model.specs.Channels.{arrival}
use Rattle.am_model.specs.Changes.{flying_of}
use Rattle.am_model.specs.History.{bounced, state_of, MayFollow, outcome_of, receive, settle, settle_by, counts, arrive, decided, channel_to, next_number}
use Rattle.am_model.proofs.Ends.{EmittedIn, was_emitted, mark_push}
use Rattle.am_names.specs.declared.EndpointId.{EndpointId}
use Rattle.am_office_entries.specs.Entries.{put_in, put_of}
use Rattle.am_laws.proofs.Marks.{IsPast, fresh_means, Decides, MarkMoves, mark_moves, mark_after}
use Rattle.am_model.proofs.Ends.{mark_push}
use Rattle.am_model.proofs.Names.{same_node-is, same_channel-refl}
use Rattle.am_model.specs.Cluster.{parcel_channel, other_end}

-- a parcel that its receiving end would take for fresh
abbrev pub IsFresh : List Entry → Parcel → Type 0
IsFresh past q = IsPast (mark (other_end (parcel_channel q)) past) q.seq q.attempt

past_before : (old new : Mark) (past : List Entry) (d : Channel) → MarkMoves past old new d → (seq attempt : ℕ) → IsPast new seq attempt →
    IsPast old seq attempt
past_before old new past d moves seq attempt h =
    ⊎_elim
    (λ (same : new ≡ old). subst (λ (m : Mark). IsPast m seq attempt) same h)
    (λ (by : Decides past old new d).
    ⊎_elim
    (λ (above : new.seq < seq).
    ⊎_elim (λ (low : old.seq < by.by.seq). inl (omega (arith, above, low, by.seq)))
    (λ (at : (by.by.seq ≡ old.seq) × (old.attempt < by.by.attempt) × (old.verdict ≢ Verdicts.Accepted)). inl (omega (arith, above, at.0, by.seq)))
    by.fresh)
    (λ (here : (seq ≡ new.seq) × (new.attempt < attempt) × (new.verdict ≢ Verdicts.Accepted)).
    ⊎_elim (λ (low : old.seq < by.by.seq). inl (omega (arith, here.0, low, by.seq)))
    (λ (at : (by.by.seq ≡ old.seq) × (old.attempt < by.by.attempt) × (old.verdict ≢ Verdicts.Accepted)).
    inr (here.0 ∙ by.seq ∙ at.0, omega (arith, here.1, at.1, by.attempt), at.2))
    by.fresh)
    h)
    moves

-- what is fresh after one entry more was so before
pub fresh_before : (layout : Layout) (past : List Entry) (x : Entry) → MayFollow layout past x → (q : Parcel) → IsFresh (past ++ x ∷ []) q → IsFresh past q
fresh_before layout past x may q h =
    past_before (mark (other_end (parcel_channel q)) past) (mark (other_end (parcel_channel q)) (past ++ x ∷ [])) past (other_end (parcel_channel q))
    (mark_moves layout (other_end (parcel_channel q)) past x may) q.seq q.attempt h

-- what is put comes in a fresh parcel, and its receiving end then stands at it
pub record IsPut (past : List Entry) (new : Channel → Mark) (m : Message) : Type 0 where
  pub by : Parcel
  pub emitted : EmittedIn (Packets.Parcel by) past
  pub message : by.message ≡ m
  pub fresh : IsFresh past by
  pub marked : new (other_end (parcel_channel by)) ≡ record { seq = by.seq; attempt = by.attempt; verdict = Verdicts.Accepted }

abbrev pub marks_after : List Entry → Event → Outcome → Channel → Mark
marks_after past event o d = mark_after d (mark d past) event o

arrive_put : (layout : Layout) (past : List Entry) (node peer : NodeId) (number : ℕ) (p : Parcel) (reply : ℕ) (a : Arrival) →
    arrival (mark (channel_to node peer p.channel) past) p.seq p.attempt ≡ a → EmittedIn (Packets.Parcel p) past →
    other_end (parcel_channel p) ≡ channel_to node peer p.channel → (m : Message) →
    put_in (Events.Receive node peer number) (Out.Received p.channel p.seq p.attempt (arrive layout past p.message reply a)) ≡ Some m →
    IsPut past (marks_after past (Events.Receive node peer number) (Out.Received p.channel p.seq p.attempt (arrive layout past p.message reply a))) m
arrive_put layout past node peer number p reply Stale is here on m e = absurd (cc)
arrive_put layout past node peer number p reply (Again v) is here on m e = absurd (cc)
arrive_put layout past node peer number p reply Fresh is here on m e = by_verdict (verdict (state_of layout past p.message.dest) p.message) e
  where
    at : (t : Bool) → t ≡ true → (if t then record {
      seq = p.seq;
      attempt = p.attempt;
      verdict = Verdicts.Accepted;
    } else mark (other_end (parcel_channel p)) past) ≡ record { seq = p.seq; attempt = p.attempt; verdict = Verdicts.Accepted }
    at true h = refl
    at false h = absurd (true≢false (sym h))

    by_verdict : (v : Verdict) → put_in (Events.Receive node peer number) (Out.Received p.channel p.seq p.attempt (decided p.message reply v)) ≡ Some m →
        IsPut past (marks_after past (Events.Receive node peer number) (Out.Received p.channel p.seq p.attempt (decided p.message reply v))) m
    by_verdict Verdicts.Accepted f =
        record {
          by = p;
          emitted = here;
          message = let same : p.message ≡ m = cc in same;
          fresh = subst (λ (d : Channel). IsPast (mark d past) p.seq p.attempt) (sym on)
              (fresh_means (mark (channel_to node peer p.channel) past) p.seq p.attempt is);
          marked = at (same_channel (other_end (parcel_channel p)) node peer p.channel) (ap (λ (d : Channel). same_channel d node peer p.channel) on
              ∙ same_channel-refl (channel_to node peer p.channel));
        }
    by_verdict (Verdicts.Refused cause) f = absurd (cc)

pub settle_puts : (layout : Layout) (past : List Entry) (node peer : NodeId) (number : ℕ) (a : AnswerPacket) (b : Option Message) →
    put_in (Events.Receive node peer number) (Out.Received a.channel a.seq a.attempt (settle layout (channel_to node peer a.channel) past a b)) ≡ None
settle_puts layout past node peer number a None = refl
settle_puts layout past node peer number a (Some m) = by_test ((a.seq == sequence (channel_to node peer a.channel) past) && counts a.verdict (a.attempt ==
    attempt (channel_to node peer a.channel) past))
  where
    by_again : (cause : Cause) (n : ℕ) (again : Bool) → put_in (Events.Receive node peer number)
        (Out.Received a.channel a.seq a.attempt (if again then Got.Requeued m.serial cause n else Got.Returned m.serial cause)) ≡ None
    by_again cause n true = refl
    by_again cause n false = refl

    by_verdict : (v : Verdict) (n : ℕ) → put_in (Events.Receive node peer number) (Out.Received a.channel a.seq a.attempt (settle_by layout.bounces m n v)) ≡
        None
    by_verdict Verdicts.Accepted n = refl
    by_verdict (Verdicts.Refused cause) n = by_again cause (n + 1) (is_transient cause && nat_lt n layout.bounces)

    by_test : (t : Bool) → put_in (Events.Receive node peer number) (Out.Received a.channel a.seq a.attempt
        (if t then settle_by layout.bounces m (bounced (flying_of m.serial (state_of layout past m.serial.source).body.in_flight)) a.verdict else
        Got.Nothing)) ≡ None
    by_test true = by_verdict a.verdict (bounced (flying_of m.serial (state_of layout past m.serial.source).body.in_flight))
    by_test false = refl

pub link_of_parcel : (peer node : NodeId) (p : Parcel) → is_on_link peer node (Packets.Parcel p) ≡ true →
    other_end (parcel_channel p) ≡ channel_to node peer p.channel
link_of_parcel peer node p h =
    let parts = and_parts (same_node peer p.from) (same_node node p.to) h in
    let from : p.from ≡ peer = sym (same_node-is peer p.from parts.0) in
    let to : p.to ≡ node = sym (same_node-is node p.to parts.1) in
    λ i. channel_to (to i) (from i) p.channel

receive_put : (layout : Layout) (past : List Entry) (node peer : NodeId) (number k : ℕ) (p : Option Packet) → slice_get (emitted peer node past) k ≡ p →
    (m : Message) → put_in (Events.Receive node peer number) (receive layout node peer past p) ≡ Some m →
    IsPut past (marks_after past (Events.Receive node peer number) (receive layout node peer past p)) m
receive_put layout past node peer number k None is m e = absurd (cc)
receive_put layout past node peer number k (Some (Packets.Parcel p)) is m e =
    let was = was_emitted peer node past k (Packets.Parcel p) is in
    arrive_put layout past node peer number p (next_number node peer past) (arrival (mark (channel_to node peer p.channel) past) p.seq p.attempt) refl was.0
    (link_of_parcel peer node p was.1) m e
receive_put layout past node peer number k (Some (Packets.Answer a)) is m e =
    let none : put_in (Events.Receive node peer number) (receive layout node peer past (Some (Packets.Answer a))) ≡ None =
    settle_puts layout past node peer number a (bound_message (channel_to node peer a.channel) past) in
    let both : None ≡ Some m = sym none ∙ e in absurd (cc)

-- on the packet network a put is a receipt
event_put : (layout : Layout) (past : List Entry) (event : Event) → ((end : EndpointId) → event ≢ Events.Carry end) → (m : Message) →
    put_in event (outcome_of layout past event) ≡ Some m → IsPut past (marks_after past event (outcome_of layout past event)) m
event_put layout past (Events.Carry end) apart m e = absurd (apart end refl)
event_put layout past (Events.Receive node peer number) apart m e =
    receive_put layout past node peer number (number - 1) (slice_get (emitted peer node past) (number - 1)) refl m e
event_put layout past event apart m e = absurd (cc)

pub put_is : (layout : Layout) (past : List Entry) (x : Entry) → MayFollow layout past x → ((end : EndpointId) → x.event ≢ Events.Carry end) → (m : Message) →
    put_of x ≡ Some m → IsPut past (λ d. mark d (past ++ x ∷ [])) m
put_is layout past x may apart m e =
    subst (λ (new : Channel → Mark). IsPut past new m) (λ i d. sym (mark_push d past x _ refl) i)
    (subst (λ (o : Outcome). IsPut past (marks_after past x.event o) m) (sym may.outcome)
    (event_put layout past x.event apart m (ap (put_in x.event) (sym may.outcome) ∙ e)))
