-- While a channel is bound, no answer to the last try of its sequence was received.
use Rattle.std.proofs.Common.{◌≡◌, ◌⊎◌, ⊎_elim, ℕ, ◌+◌, ◌-◌, ◌≤◌, Bool, true, false, ◌||◌, List, [], ◌∷◌, ◌++◌, Option, Some, None, refl, sym, ap, ◌∙◌, subst}
use Rattle.std.proofs.Common.{arith, eq-eqb, if◌then◌else◌}
use Rattle.std.specs.Prelude.{◌&&◌, ◌==◌, nat_lt, slice_get}
use Rattle.std.specs.List.{cons_option}
use Rattle.std.proofs.lemmas.Bool.{and_from}
use mathlib.Core.Bool.{or-true}
use Rattle.am_names.specs.declared.NodeId.{NodeId}
use Rattle.am_names.specs.declared.Message.{Message}
use Rattle.am_names.specs.declared.Verdict.{Verdict}
use Rattle.am_names.specs.declared.Verdict.TheVariants as Verdicts
use Rattle.am_names.specs.declared.AnswerPacket.{AnswerPacket}
use Rattle.am_names.specs.declared.Packet.{Packet}
use Rattle.am_names.specs.declared.Packet.TheVariants as Packets
use Rattle.am_names.specs.Names.{same_node}
use Rattle.am_names.specs.Rules.{is_transient}
use Rattle.am_office_entries.specs.declared.Event.{Event}
use Rattle.am_office_entries.specs.declared.Event.TheVariants as Events
use Rattle.am_office_entries.specs.declared.Outcome.{Outcome}
use Rattle.am_office_entries.specs.declared.Received.TheVariants as Got
use Rattle.am_office_entries.specs.declared.Entry.{Entry}
use Rattle.am_office_entries.specs.Entries.{emitted_of}
use Rattle.am_model.specs.Changes.{flying_of}
use Rattle.am_model.specs.Layout.{Layout}
use Rattle.am_model.specs.Channels.{Channel, emitted, bound_message, sent_message, sequence, attempt, binds, frees, frees_by, same_channel}
use Rattle.am_model.specs.Cluster.{IsTrueAnswer, ParcelsFitSender}
use Rattle.am_model.specs.History.{MayFollow, IsHistory, state_of, channel_to, outcome_of, bounced, settle, settle_by, counts, receive}
use Rattle.am_model.proofs.Each.{over_each, each_push}
use Rattle.am_model.proofs.Ends.{EmittedIn, emitted_more, bound_push}
use Rattle.am_model.proofs.Names.{same_node-refl}
use Rattle.am_laws.proofs.Senders.{SenderMoves, sender, sender_moves}
use Rattle.am_laws_cluster.proofs.Sent.{emitted_gave, parcels_fit}
use Rattle.am_laws_cluster.proofs.Answers.{answers_true}
use Rattle.am_model_scripts.specs.Links.{number_received, received}
use Rattle.am_model_scripts.proofs.Links.{received_push}
use Rattle.am_laws_runs.specs.Turns.Endings.{is_among}
use Rattle.am_laws_runs.proofs.TurnCounts.{among_append, counted, not_yet, received_now}

-- the channel that an answer is about, as the asking end has it
abbrev pub asked : AnswerPacket → Channel
asked a = channel_to a.to a.from a.channel

-- ---- no answer to the last try was received

-- the answer to the last try of a channel that is bound
record IsToLast (past : List Entry) (a : AnswerPacket) (m : Message) : Type 0 where
  bound' : bound_message (asked a) past ≡ Some m
  seq' : a.seq ≡ sequence (asked a) past
  attempt' : a.attempt ≡ attempt (asked a) past

abbrev IsUnheard : List Entry → Type 0
IsUnheard past = (a : AnswerPacket) (m : Message) → EmittedIn (Packets.Answer a) past → IsToLast past a m →
    is_among a.number (received a.from a.to past) ≡ false

record IsQuiet (layout : Layout) (past : List Entry) : Type 0 where
  history : IsHistory layout past
  unheard : IsUnheard past

-- an answer that was emitted before is to the last try before, too
to_last_before : (layout : Layout) (past : List Entry) (x : Entry) → IsHistory layout past → MayFollow layout past x → (a : AnswerPacket) (m : Message) →
    EmittedIn (Packets.Answer a) past → IsToLast (past ++ x ∷ []) a m → IsToLast past a m
to_last_before layout past x h may a m old k =
    ⊎_elim
    (λ (same : sequence (asked a) (past ++ x ∷ []) ≡ sequence (asked a) past).
    let most : true'.parcel.attempt ≤ attempt (asked a) past =
    subst (λ (d : Channel). true'.parcel.attempt ≤ attempt d past) true'.on (fits.attempt true'.parcel true'.sent (true'.seq
    ∙ (k.seq' ∙ (same ∙ sym (ap (λ (d : Channel). sequence d past) true'.on))))) in
    let less : attempt (asked a) past ≤ attempt (asked a) (past ++ x ∷ []) = moves.later_attempt same in
    record { bound' = moves.same_message m same k.bound'; seq' = k.seq' ∙ same; attempt' = omega (arith, most, less, true'.attempt, k.attempt') })
    (λ (up : sequence (asked a) (past ++ x ∷ []) ≡ sequence (asked a) past + 1).
    let most : true'.parcel.seq ≤ sequence (asked a) past = subst (λ (d : Channel). true'.parcel.seq ≤ sequence d past) true'.on
    (fits.seq true'.parcel true'.sent) in
    absurd (omega (arith, most, up, true'.seq, k.seq')))
    moves.up
  where
    moves : SenderMoves (sender (asked a) past) (sender (asked a) (past ++ x ∷ []))
    moves = sender_moves layout (asked a) past x may

    true' : IsTrueAnswer past a
    true' = answers_true layout past h a (emitted_gave (Packets.Answer a) past old)

    fits : ParcelsFitSender past
    fits = parcels_fit layout past h

-- an answer that counts frees the channel
settled_frees : (limit : ℕ) (m : Message) (bounces : ℕ) (v : Verdict) → frees_by (settle_by limit m bounces v) ≡ true
settled_frees limit m bounces Verdicts.Accepted = refl
settled_frees limit m bounces (Verdicts.Refused cause) = by_test (is_transient cause && nat_lt bounces limit)
  where
    by_test : (b : Bool) → frees_by (if b then Got.Requeued m.serial cause (bounces + 1) else Got.Returned m.serial cause) ≡ true
    by_test true = refl
    by_test false = refl

count_all : (v : Verdict) (b : Bool) → b ≡ true → counts v b ≡ true
count_all Verdicts.Accepted b h = refl
count_all (Verdicts.Refused cause) b h = h

heard_frees : (layout : Layout) (past : List Entry) (a : AnswerPacket) (m : Message) →
    slice_get (emitted a.from a.to past) (a.number - 1) ≡ Some (Packets.Answer a) → IsToLast past a m →
    frees (asked a) (Events.Receive a.to a.from a.number) (outcome_of layout past (Events.Receive a.to a.from a.number)) ≡ true
heard_frees layout past a m at k =
    ap (λ (p : Option Packet). frees (asked a) (Events.Receive a.to a.from a.number) (receive layout a.to a.from past p)) at
    ∙ and_from (frees_by (settle layout (asked a) past a (bound_message (asked a) past))) (same_channel (asked a) a.to a.from a.channel) settles own
  where
    own : same_channel (asked a) a.to a.from a.channel ≡ true
    own =
        and_from (same_node a.to a.to && same_node a.from a.from) (a.channel == a.channel)
        (and_from (same_node a.to a.to) (same_node a.from a.from) (same_node-refl a.to) (same_node-refl a.from)) (eq-eqb a.channel a.channel refl)

    settles : frees_by (settle layout (asked a) past a (bound_message (asked a) past)) ≡ true
    settles =
        ap (λ (o : Option Message). frees_by (settle layout (asked a) past a o)) k.bound'
        ∙ (ap (λ (b : Bool). frees_by (if b then settle_by layout.bounces m (bounced (flying_of m.serial (state_of layout past m.serial.source).body.in_flight))
        a.verdict else Got.Nothing))
        (and_from (a.seq == sequence (asked a) past) (counts a.verdict (a.attempt == attempt (asked a) past)) (eq-eqb a.seq (sequence (asked a) past) k.seq')
        (count_all a.verdict (a.attempt == attempt (asked a) past) (eq-eqb a.attempt (attempt (asked a) past) k.attempt')))
        ∙ settled_frees layout.bounces m (bounced (flying_of m.serial (state_of layout past m.serial.source).body.in_flight)) a.verdict)

sends_none : (layout : Layout) (node peer : NodeId) (past : List Entry) (p : Option Packet) → sent_message (receive layout node peer past p) ≡ None
sends_none layout node peer past None = refl
sends_none layout node peer past (Some (Packets.Parcel p)) = refl
sends_none layout node peer past (Some (Packets.Answer p)) = refl

-- what receives such an answer frees the channel
hears_none : (layout : Layout) (past : List Entry) (x : Entry) (a : AnswerPacket) (m : Message) → IsHistory layout past → MayFollow layout past x →
    EmittedIn (Packets.Answer a) past → IsToLast past a m → bound_message (asked a) (past ++ x ∷ []) ≡ Some m → x.event ≡ Events.Receive a.to a.from a.number →
    ⊥
hears_none layout past x a m h may old last bound ev =
    let freed : frees (asked a) x.event x.outcome ≡ true = ap (λ (o : Outcome). frees (asked a) x.event o) may.outcome
    ∙ (ap (λ (v : Event). frees (asked a) v (outcome_of layout past v)) ev
    ∙ heard_frees layout past a m ((counted layout past h).placed (Packets.Answer a) old) last) in
    let any : (binds (asked a) x.event x.outcome || frees (asked a) x.event x.outcome) ≡ true = ap (λ (b : Bool). binds (asked a) x.event x.outcome || b) freed
    ∙ or-true (binds (asked a) x.event x.outcome) in
    let none : sent_message x.outcome ≡ None = ap sent_message may.outcome ∙ (ap (λ (v : Event). sent_message (outcome_of layout past v)) ev
    ∙ sends_none layout a.to a.from past (slice_get (emitted a.from a.to past) (a.number - 1))) in
    let free : bound_message (asked a) (past ++ x ∷ []) ≡ None = bound_push (asked a) past x true any ∙ none in
    let both : ◌≡◌ {A = Option Message} (Some m) None = sym bound ∙ free in
    cc

unheard_more : (layout : Layout) (past : List Entry) (x : Entry) → IsQuiet layout past → MayFollow layout past x → IsUnheard (past ++ x ∷ [])
unheard_more layout past x k may a m there last = by_test (is_among a.number (received a.from a.to (past ++ x ∷ []))) refl
    (emitted_more (Packets.Answer a) past x there)
  where
    heard : is_among a.number (received a.from a.to (past ++ x ∷ [])) ≡ true → EmittedIn (Packets.Answer a) past → ⊥
    heard got old =
        let before = to_last_before layout past x k.history may a m old last in
        let none : is_among a.number (received a.from a.to past) ≡ false = k.unheard a m old before in
        let now : is_among a.number (cons_option (number_received a.from a.to x.event) []) ≡ true =
        sym (ap (is_among a.number) (received_push a.from a.to past x)
        ∙ (among_append a.number (received a.from a.to past) (cons_option (number_received a.from a.to x.event) [])
        ∙ ap (λ (b : Bool). b || is_among a.number (cons_option (number_received a.from a.to x.event) [])) none)) ∙ got in
        hears_none layout past x a m k.history may old before last.bound' (received_now a.from a.to a.number x.event now)

    by_test : (b : Bool) → is_among a.number (received a.from a.to (past ++ x ∷ [])) ≡ b →
        EmittedIn (Packets.Answer a) past ⊎ (emitted_of x ≡ Some (Packets.Answer a)) → b ≡ false
    by_test false is when = refl
    by_test true is when =
        absurd (⊎_elim (λ (old : EmittedIn (Packets.Answer a) past). heard is old) (λ (new : emitted_of x ≡ Some (Packets.Answer a)). not_yet layout past x
        k.history may (Packets.Answer a) new is) when)

quiet : (layout : Layout) (past : List Entry) → IsHistory layout past → IsQuiet layout past
quiet layout past h =
    over_each (MayFollow layout) (λ xs. IsQuiet layout xs)
    (λ xs x k may.
    record {
      history = each_push (MayFollow layout) [] xs x k.history may;
      unheard = unheard_more layout xs x k may;
    })
    []
    past
    (record { history = tt; unheard = λ a m h k. absurd h })
    h

-- while a channel is bound, the answer to the last try of its sequence was not received
pub unheard : (layout : Layout) (past : List Entry) → IsHistory layout past → (a : AnswerPacket) (m : Message) → EmittedIn (Packets.Answer a) past →
    bound_message (asked a) past ≡ Some m → a.seq ≡ sequence (asked a) past → a.attempt ≡ attempt (asked a) past →
    is_among a.number (received a.from a.to past) ≡ false
unheard layout past h a m there bound seq attempt' = (quiet layout past h).unheard a m there (record { bound' = bound; seq' = seq; attempt' = attempt' })
