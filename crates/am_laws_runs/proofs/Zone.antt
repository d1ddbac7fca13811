-- What is so of a history from a journal on at which nothing is on its way and no channel is bound, entry by entry: one message at
-- most is on its way, and there is room for it.
use Rattle.std.specs.Prelude.{slice_get, ◌&&◌, not}
use Rattle.std.proofs.Common.{◌≡◌, ◌≢◌, ⊎_elim, ℕ, ◌+◌, ◌-◌, ◌<◌, ◌≤◌, Bool, true, false, List, [], ◌∷◌, ◌++◌, Option, Some, None, refl, sym, ap, ◌∙◌, subst}
use Rattle.std.proofs.Common.{arith, true≢false}
use Rattle.std.proofs.lemmas.Bool.{not-true}
use Rattle.am_names.specs.declared.AnswerPacket.{AnswerPacket}
use Rattle.am_names.specs.declared.EndpointId.{EndpointId}
use Rattle.am_names.specs.declared.Message.{Message}
use Rattle.am_names.specs.declared.NodeId.{NodeId}
use Rattle.am_names.specs.declared.Packet.TheVariants as Packets
use Rattle.am_names.specs.declared.Parcel.{Parcel}
use Rattle.am_names.specs.declared.Verdict.{Verdict}
use Rattle.am_names.specs.declared.Verdict.TheVariants as Verdicts
use Rattle.am_office_entries.specs.declared.Entry.{Entry}
use Rattle.am_office_entries.specs.declared.Event.{Event}
use Rattle.am_office_entries.specs.declared.Event.TheVariants as Events
use Rattle.am_office_entries.specs.declared.Outcome.{Outcome}
use Rattle.am_office_entries.specs.declared.Outcome.TheVariants as Out
use Rattle.am_office_entries.specs.Entries.{emitted_in, emitted_of, answer_by, answer_packet, touches}
use Rattle.am_model.specs.Channels.{Channel, Mark, same_channel, sequence, attempt, bound_message, mark, mark_in, decides, decides_by, emitted}
use Rattle.am_model.specs.Changes.{changed}
use Rattle.am_model.specs.Endpoint.{State}
use Rattle.am_model.specs.History.{MayFollow, state_of, receive, decided, channel_to}
use Rattle.am_model.specs.Layout.{Layout}
use Rattle.am_model.proofs.Each.{state_of_push}
use Rattle.am_model.proofs.Ends.{EmittedIn, emitted_more, mark_push}
use Rattle.am_model.proofs.Names.{same_channel-refl}
use Rattle.am_laws.proofs.Marks.{IsPast, parcel_no_answer}
use Rattle.am_laws.proofs.OrderedParcels.{receive_no_parcel}
use Rattle.am_laws.proofs.Puts.{IsFresh, fresh_before}
use Rattle.am_laws.proofs.Senders.{SenderMoves, sender, sender_moves}
use Rattle.am_laws_runs.proofs.Fits.{fits, IsForGood, received_fits}
use Rattle.am_model.specs.Cluster.{answer_channel, parcel_channel, other_end}

-- ---- what is on its way

abbrev pub FitsOf : Layout → List Entry → Option Parcel → Type 0
FitsOf layout past None = Unit {0}
FitsOf layout past (Some p) = fits (state_of layout past p.message.dest) p.message ≡ true

-- a parcel between nodes of the layout
pub record IsBetween (layout : Layout) (q : Parcel) : Type 0 where
  pub from' : q.from.0 < layout.nodes
  pub to' : q.to.0 < layout.nodes

-- one parcel at most is on its way that would be taken for fresh, and there is room for its message
pub record OneFresh (layout : Layout) (past : List Entry) (o : Option Parcel) : Type 0 where
  pub only : (q : Parcel) → IsBetween layout q → EmittedIn (Packets.Parcel q) past → IsFresh past q → o ≡ Some q
  pub room : FitsOf layout past o

-- the verdicts on sequences that began since are for good, and so are the answers
pub record ForGoodSince (from past : List Entry) : Type 0 where
  pub marks : (d : Channel) → sequence (other_end d) from < (mark d past).seq → IsForGood (mark d past).verdict
  pub answers : (a : AnswerPacket) → EmittedIn (Packets.Answer a) past → sequence (other_end (answer_channel a)) from < a.seq → IsForGood a.verdict

-- a channel that is bound was bound since
pub record BoundSince (from past : List Entry) : Type 0 where
  pub later : (c : Channel) → sequence c from ≤ sequence c past
  pub bound : (c : Channel) (m : Message) → bound_message c past ≡ Some m → sequence c from < sequence c past

pub record Zone (layout : Layout) (from past : List Entry) (o : Option Parcel) : Type 0 where
  pub fresh : OneFresh layout past o
  pub good : ForGoodSince from past
  pub since : BoundSince from past

-- ---- channels are bound since

since_more : (layout : Layout) (from past : List Entry) (x : Entry) → MayFollow layout past x → BoundSince from past → BoundSince from (past ++ x ∷ [])
since_more layout from past x may k = record { later = later; bound = bound }
  where
    moves : (c : Channel) → SenderMoves (sender c past) (sender c (past ++ x ∷ []))
    moves c = sender_moves layout c past x may

    later : (c : Channel) → sequence c from ≤ sequence c (past ++ x ∷ [])
    later c =
        ⊎_elim
        (λ (same : sequence c (past ++ x ∷ []) ≡ sequence c past). (let n : sequence c from ≤ sequence c (past ++ x ∷ []) = omega (arith, same, k.later c) in
        n))
        (λ (up : sequence c (past ++ x ∷ []) ≡ sequence c past + 1). (let n : sequence c from ≤ sequence c (past ++ x ∷ []) = omega (arith, up, k.later c) in
        n))
        (moves c).up

    bound : (c : Channel) (m : Message) → bound_message c (past ++ x ∷ []) ≡ Some m → sequence c from < sequence c (past ++ x ∷ [])
    bound c m is =
        ⊎_elim
        (λ (same : sequence c (past ++ x ∷ []) ≡ sequence c past).
        let before : sequence c from < sequence c past = k.bound c m ((moves c).same_message m same is) in
        let n : sequence c from < sequence c (past ++ x ∷ []) = omega (arith, same, before) in
        n)
        (λ (up : sequence c (past ++ x ∷ []) ≡ sequence c past + 1). (let n : sequence c from < sequence c (past ++ x ∷ []) = omega (arith, up, k.later c) in
        n))
        (moves c).up

-- ---- an entry that receives nothing

-- an event that receives and carries nothing
abbrev pub receives_nothing : Event → Bool
receives_nothing (Events.Receive node peer number) = false
receives_nothing (Events.Carry end) = false
receives_nothing event = true

undecided : (d : Channel) (event : Event) (o : Outcome) → receives_nothing event ≡ true → decides d event o ≡ false
undecided d (Events.Receive node peer number) o h = absurd (true≢false (sym h))
undecided d event o h = refl

unanswered : (stamp : ℕ) (event : Event) (o : Outcome) (a : AnswerPacket) → receives_nothing event ≡ true → emitted_in stamp event o ≡ Some (Packets.Answer a) →
    ⊥
unanswered stamp (Events.Receive node peer number) o a h e = true≢false (sym h)
unanswered stamp (Events.Bind node end) o a h e = parcel_no_answer node stamp o a e
unanswered stamp (Events.Expire node peer channel) o a h e = parcel_no_answer node stamp o a e
unanswered stamp event o a h e = cc

same_mark : (past : List Entry) (x : Entry) (d : Channel) → decides d x.event x.outcome ≡ false → mark d (past ++ x ∷ []) ≡ mark d past
same_mark past x d none = mark_push d past x false none

good_more : (from past : List Entry) (x : Entry) → receives_nothing x.event ≡ true → ForGoodSince from past → ForGoodSince from (past ++ x ∷ [])
good_more from past x nothing k =
    record {
      marks = λ d.
          subst (λ (m : Mark). sequence (other_end d) from < m.seq →
          IsForGood m.verdict) (sym (same_mark past x d (undecided d x.event x.outcome nothing))) (k.marks d);
      answers = λ a there above.
          ⊎_elim
          (λ (old : EmittedIn (Packets.Answer a) past). k.answers a old above)
          (λ (new : emitted_of x ≡ Some (Packets.Answer a)). absurd (unanswered x.stamp x.event x.outcome a nothing new))
          (emitted_more (Packets.Answer a) past x there);
    }

-- an entry that receives nothing, where nothing is on its way: what it emits is, if there is room for it
pub zone_more : (layout : Layout) (from past : List Entry) (x : Entry) (o : Option Parcel) → MayFollow layout past x → receives_nothing x.event ≡ true →
    ((q : Parcel) → emitted_of x ≡ Some (Packets.Parcel q) → o ≡ Some q) → FitsOf layout (past ++ x ∷ []) o → Zone layout from past None →
    Zone layout from (past ++ x ∷ []) o
zone_more layout from past x o may nothing emits room k =
    record {
      fresh =
          record {
            only = λ q within there fresh.
                ⊎_elim
                (λ (old : EmittedIn (Packets.Parcel q) past).
                let before : None ≡ Some q = k.fresh.only q within old (fresh_before layout past x may q fresh) in
                let now : o ≡ Some q = absurd (cc) in
                now)
                (λ (new : emitted_of x ≡ Some (Packets.Parcel q)). emits q new)
                (emitted_more (Packets.Parcel q) past x there);
            room = room;
          };
      good = good_more from past x nothing k.good;
      since = since_more layout from past x may k.since;
    }

-- ---- a receipt that decides nothing

-- an outcome in which no verdict is given
abbrev pub undeciding : Outcome → Bool
undeciding (Out.Received channel seq attempt r) = not (decides_by r)
undeciding o = true

not_so : (b c : Bool) → not b ≡ true → (b && c) ≡ false
not_so true c h = absurd (true≢false (sym h))
not_so false c h = refl

not_decided : (d : Channel) (node peer : NodeId) (number : ℕ) (o : Outcome) → undeciding o ≡ true → decides d (Events.Receive node peer number) o ≡ false
not_decided d node peer number (Out.Received channel seq attempt r) h = not_so (decides_by r) (same_channel d node peer channel) h
not_decided d node peer number o h = refl

changed_fits : (e : EndpointId) (s : State) (node peer : NodeId) (number : ℕ) (o : Outcome) (m : Message) → undeciding o ≡ true →
    fits (changed e s (Events.Receive node peer number) o) m ≡ fits s m
changed_fits e s node peer number (Out.Received channel seq attempt r) m h = received_fits e s r m (not-true (decides_by r) h)
changed_fits e s node peer number o m h = refl

-- a receipt, in a history
pub record Receives (layout : Layout) (past : List Entry) (x : Entry) (node peer : NodeId) (number : ℕ) : Type 0 where
  pub may : MayFollow layout past x
  pub event' : x.event ≡ Events.Receive node peer number
  pub outcome' : x.outcome ≡ receive layout node peer past (slice_get (emitted peer node past) (number - 1))

no_new_parcel : (layout : Layout) (past : List Entry) (x : Entry) (node peer : NodeId) (number : ℕ) → Receives layout past x node peer number → (q : Parcel) →
    emitted_of x ≡ Some (Packets.Parcel q) → ⊥
no_new_parcel layout past x node peer number r q e =
    receive_no_parcel layout past x.stamp node peer number (slice_get (emitted peer node past) (number - 1)) q
    (sym (ap (λ (v : Event). emitted_in x.stamp v x.outcome) r.event' ∙ ap (emitted_in x.stamp (Events.Receive node peer number)) r.outcome') ∙ e)

room_more : (layout : Layout) (past : List Entry) (x : Entry) (node peer : NodeId) (number : ℕ) (o : Option Parcel) →
    x.event ≡ Events.Receive node peer number → undeciding x.outcome ≡ true → FitsOf layout past o → FitsOf layout (past ++ x ∷ []) o
room_more layout past x node peer number None ev none room = tt
room_more layout past x node peer number (Some p) ev none room = by_test (touches p.message.dest x) refl
  where
    by_test : (b : Bool) → touches p.message.dest x ≡ b → fits (state_of layout (past ++ x ∷ []) p.message.dest) p.message ≡ true
    by_test true is =
        ap (λ (s : State). fits s p.message) (state_of_push layout past x p.message.dest true is)
        ∙ (ap (λ (v : Event). fits (changed p.message.dest (state_of layout past p.message.dest) v x.outcome) p.message) ev
        ∙ (changed_fits p.message.dest (state_of layout past p.message.dest) node peer number x.outcome p.message none ∙ room))
    by_test false is = ap (λ (s : State). fits s p.message) (state_of_push layout past x p.message.dest false is) ∙ room

-- what a receipt answers is for good, where it is on a sequence that began since
abbrev pub AnswersForGood : List Entry → Entry → Type 0
AnswersForGood from x = (a : AnswerPacket) → emitted_of x ≡ Some (Packets.Answer a) → sequence (other_end (answer_channel a)) from < a.seq → IsForGood a.verdict

pub undecided_more : (layout : Layout) (from past : List Entry) (x : Entry) (node peer : NodeId) (number : ℕ) (o : Option Parcel) →
    Receives layout past x node peer number → undeciding x.outcome ≡ true → AnswersForGood from x → Zone layout from past o →
    Zone layout from (past ++ x ∷ []) o
undecided_more layout from past x node peer number o r none answers k =
    record {
      fresh =
          record {
            only = λ q within there fresh.
                ⊎_elim
                (λ (old : EmittedIn (Packets.Parcel q) past). k.fresh.only q within old (fresh_before layout past x r.may q fresh))
                (λ (new : emitted_of x ≡ Some (Packets.Parcel q)). absurd (no_new_parcel layout past x node peer number r q new))
                (emitted_more (Packets.Parcel q) past x there);
            room = room_more layout past x node peer number o r.event' none k.fresh.room;
          };
      good =
          record {
            marks = λ d.
                subst (λ (m : Mark). sequence (other_end d) from < m.seq → IsForGood m.verdict)
                (sym (same_mark past x d (ap (λ (v : Event). decides d v x.outcome) r.event' ∙ not_decided d node peer number x.outcome none)))
                (k.good.marks d);
            answers = λ a there above.
                ⊎_elim
                (λ (old : EmittedIn (Packets.Answer a) past). k.good.answers a old above)
                (λ (new : emitted_of x ≡ Some (Packets.Answer a)). answers a new above)
                (emitted_more (Packets.Answer a) past x there);
          };
      since = since_more layout from past x r.may k.since;
    }

-- ---- a receipt that decides

-- a parcel that is received and would be taken for fresh
pub record Comes (layout : Layout) (past : List Entry) (node peer : NodeId) (p : Parcel) : Type 0 where
  pub there : EmittedIn (Packets.Parcel p) past
  pub within : IsBetween layout p
  pub on : other_end (parcel_channel p) ≡ channel_to node peer p.channel
  pub fresh : IsFresh past p

pub not_past : (v : Verdict) (seq attempt : ℕ) → IsPast (record { seq = seq; attempt = attempt; verdict = v }) seq attempt → ⊥
not_past v seq attempt h =
    ⊎_elim (λ (above : seq < seq). omega (arith, above)) (λ (same : (seq ≡ seq) × (attempt < attempt) × (v ≢ Verdicts.Accepted)). omega (arith, same.1)) h

pub decides_now : (node peer : NodeId) (number channel seq attempt : ℕ) (m : Message) (n : ℕ) (v : Verdict) →
    decides (channel_to node peer channel) (Events.Receive node peer number) (Out.Received channel seq attempt (decided m n v)) ≡ true
decides_now node peer number channel seq attempt m n Verdicts.Accepted = same_channel-refl (channel_to node peer channel)
decides_now node peer number channel seq attempt m n (Verdicts.Refused cause) = same_channel-refl (channel_to node peer channel)

pub decided_mark : (channel seq attempt : ℕ) (m : Message) (n : ℕ) (v : Verdict) →
    mark_in (Out.Received channel seq attempt (decided m n v)) ≡ record { seq = seq; attempt = attempt; verdict = v }
decided_mark channel seq attempt m n Verdicts.Accepted = refl
decided_mark channel seq attempt m n (Verdicts.Refused cause) = refl

decided_answer : (node peer : NodeId) (channel seq attempt stamp : ℕ) (m : Message) (n : ℕ) (v : Verdict) (a : AnswerPacket) →
    answer_packet node peer channel seq attempt stamp (answer_by (decided m n v)) ≡ Some (Packets.Answer a) → a.verdict ≡ v
decided_answer node peer channel seq attempt stamp m n Verdicts.Accepted a e =
    let same : record {
      from = node;
      to = peer;
      channel = channel;
      seq = seq;
      attempt = attempt;
      number = n;
      stamp = stamp;
      verdict = Verdicts.Accepted;
    } ≡ a = cc in
    sym (ap (λ (b : AnswerPacket). b.verdict) same)
decided_answer node peer channel seq attempt stamp m n (Verdicts.Refused cause) a e =
    let same : record {
      from = node;
      to = peer;
      channel = channel;
      seq = seq;
      attempt = attempt;
      number = n;
      stamp = stamp;
      verdict = Verdicts.Refused cause;
    } ≡ a = cc in
    sym (ap (λ (b : AnswerPacket). b.verdict) same)

-- a receipt that gives a verdict for good on the parcel that is on its way
pub record Decides (layout : Layout) (past : List Entry) (x : Entry) (node peer : NodeId) (number : ℕ) (p : Parcel) (n : ℕ) (v : Verdict) : Type 0 where
  pub receives : Receives layout past x node peer number
  pub comes : Comes layout past node peer p
  pub outcome' : x.outcome ≡ Out.Received p.channel p.seq p.attempt (decided p.message n v)
  pub good : IsForGood v

pub decided_more : (layout : Layout) (from past : List Entry) (x : Entry) (node peer : NodeId) (number : ℕ) (p : Parcel) (n : ℕ) (v : Verdict)
    (o : Option Parcel) → Decides layout past x node peer number p n v → Zone layout from past o → Zone layout from (past ++ x ∷ []) None
decided_more layout from past x node peer number p n v o k z =
    record {
      fresh =
          record {
            only = λ q within there fresh.
                ⊎_elim
                (λ (old : EmittedIn (Packets.Parcel q) past). absurd
                (not_fresh q (z.fresh.only q within old (fresh_before layout past x k.receives.may q fresh)) fresh))
                (λ (new : emitted_of x ≡ Some (Packets.Parcel q)). absurd (no_new_parcel layout past x node peer number k.receives q new))
                (emitted_more (Packets.Parcel q) past x there);
            room = tt;
          };
      good = record { marks = λ d. marks d (decides d x.event x.outcome) refl; answers = answers };
      since = since_more layout from past x k.receives.may z.since;
    }
  where
    now : Outcome
    now = Out.Received p.channel p.seq p.attempt (decided p.message n v)

    marked : mark (other_end (parcel_channel p)) (past ++ x ∷ []) ≡ record { seq = p.seq; attempt = p.attempt; verdict = v }
    marked =
        mark_push (other_end (parcel_channel p)) past x true
        (ap (λ (w : Event). decides (other_end (parcel_channel p)) w x.outcome) k.receives.event'
        ∙ (ap (decides (other_end (parcel_channel p)) (Events.Receive node peer number)) k.outcome'
        ∙ (ap (λ (c : Channel). decides c (Events.Receive node peer number) (Out.Received p.channel p.seq p.attempt (decided p.message n v))) k.comes.on
        ∙ decides_now node peer number p.channel p.seq p.attempt p.message n v)))
        ∙ (ap mark_in k.outcome' ∙ decided_mark p.channel p.seq p.attempt p.message n v)

    not_fresh : (q : Parcel) → o ≡ Some q → IsFresh (past ++ x ∷ []) q → ⊥
    not_fresh q is fresh =
        let mine : o ≡ Some p = z.fresh.only p k.comes.within k.comes.there k.comes.fresh in
        let same : q ≡ p = cc in
        not_past v p.seq p.attempt (subst (λ (m : Mark). IsPast m p.seq p.attempt) marked (subst (λ (r : Parcel). IsFresh (past ++ x ∷ []) r) same fresh))

    marks : (d : Channel) (b : Bool) → decides d x.event x.outcome ≡ b → sequence (other_end d) from < (mark d (past ++ x ∷ [])).seq →
        IsForGood (mark d (past ++ x ∷ [])).verdict
    marks d true is above =
        subst (λ (m : Mark). IsForGood m.verdict)
        (sym (mark_push d past x true is ∙ (ap mark_in k.outcome' ∙ decided_mark p.channel p.seq p.attempt p.message n v))) k.good
    marks d false is above =
        subst (λ (m : Mark). sequence (other_end d) from < m.seq → IsForGood m.verdict) (sym (same_mark past x d is)) (z.good.marks d) above

    answers : (a : AnswerPacket) → EmittedIn (Packets.Answer a) (past ++ x ∷ []) → sequence (other_end (answer_channel a)) from < a.seq → IsForGood a.verdict
    answers a there above =
        ⊎_elim
        (λ (old : EmittedIn (Packets.Answer a) past). z.good.answers a old above)
        (λ (new : emitted_of x ≡ Some (Packets.Answer a)).
        subst (λ (w : Verdict). IsForGood w)
        (sym (decided_answer node peer p.channel p.seq p.attempt x.stamp p.message n v a
        (sym (ap (λ (w : Event). emitted_in x.stamp w x.outcome) k.receives.event' ∙ ap (emitted_in x.stamp (Events.Receive node peer number)) k.outcome')
        ∙ new)))
        k.good)
        (emitted_more (Packets.Answer a) past x there)
