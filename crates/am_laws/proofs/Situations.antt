-- Where each serial stands, on the packet network.
use Rattle.std.proofs.Common.{◌≡◌, ◌≢◌, ◌⊎◌, inl, inr, ⊎_elim, ℕ, ◌+◌, ◌≤◌, ◌<◌, Bool, true, false, List, [], ◌∷◌, ◌++◌, Option, Some, None, refl, sym, ap, ◌∙◌}
use Rattle.std.proofs.Common.{subst, arith}
use Rattle.am_names.specs.declared.Message.{Message}
use Rattle.am_names.specs.declared.Cause.{Cause}
use Rattle.am_names.specs.declared.Verdict.TheVariants as Verdicts
use Rattle.am_names.specs.declared.Parcel.{Parcel}
use Rattle.am_names.specs.declared.AnswerPacket.{AnswerPacket}
use Rattle.am_names.specs.declared.Packet.TheVariants as Packets
use Rattle.am_office_entries.specs.declared.Event.TheVariants as Events
use Rattle.am_office_entries.specs.declared.Entry.{Entry}
use Rattle.am_model.specs.Layout.{Layout}
use Rattle.am_model.specs.Channels.{Channel, Mark, sequence, bound_message, attempt, mark}
use Rattle.am_model.specs.History.{MayFollow}
use Rattle.am_model.proofs.Ends.{EmittedIn, emitted_more}
use Rattle.am_laws.proofs.Senders.{Sender, sender}
use Rattle.am_laws.proofs.OrderedParcels.{IsOf}
use Rattle.am_names.specs.declared.EndpointId.{EndpointId}
use Rattle.am_model.proofs.Received.{bit}
use Rattle.am_office_entries.specs.Entries.{put_in, put_of, passes}
use Rattle.am_laws.proofs.Marks.{IsPast}
use Rattle.am_names.specs.declared.Serial.{Serial}
use Rattle.am_names.specs.Names.{same_serial, has_serial}
use Rattle.am_model.specs.PostOffice.{times}
use Rattle.am_model.proofs.Names.{same_serial-is}
use Rattle.am_laws.proofs.Effects.{IsSame, IsBoundTo, IsFreedAt, IsRefusal}
use Rattle.am_laws.proofs.Marks.{ChannelsKept, refusal_marks, refusal_stands, mark_moves, Decides}
use Rattle.am_laws.proofs.OrderedParcels.{IsOf, IsCurrent, new_parcel}
use Rattle.am_model.proofs.Ends.{emitted_more}
use Rattle.am_laws.proofs.Puts.{IsFresh, IsPut, fresh_before, put_is}
use Rattle.am_model.proofs.Books.{role_push}
use Rattle.am_model.specs.Cluster.{answer_channel, parcel_channel, other_end}

-- no fresh parcel has the serial
abbrev pub NoneFresh : Serial → List Entry → Type 0
NoneFresh s past = (q : Parcel) → EmittedIn (Packets.Parcel q) past → q.message.serial ≡ s → IsFresh past q → ⊥

-- fresh parcels of the serial are of this channel and sequence
abbrev pub FreshOn : Serial → Channel → ℕ → List Entry → Type 0
FreshOn s c k past = (q : Parcel) → EmittedIn (Packets.Parcel q) past → q.message.serial ≡ s → IsFresh past q → (parcel_channel q ≡ c) × (q.seq ≡ k)

-- no channel has a message of the serial
abbrev pub IsUnbound : Serial → (Channel → Sender) → Type 0
IsUnbound s senders = (c : Channel) (m : Message) → (senders c).bound ≡ Some m → m.serial ≡ s → ⊥

abbrev pub sent_by : List Entry → Channel → Sender
sent_by past c = sender c past

-- one channel at most has a message of the serial
abbrev pub IsOnlyOn : Serial → Channel → (Channel → Sender) → Type 0
IsOnlyOn s at senders = (c : Channel) (m : Message) → (senders c).bound ≡ Some m → m.serial ≡ s → c ≡ at

abbrev pub puts : Serial → List Entry → ℕ
puts s past = times put_of (has_serial s) past

-- the receiving end stands at this sequence, accepted
abbrev pub IsAcceptedAt : Channel → ℕ → List Entry → Type 0
IsAcceptedAt c k past = ((mark (other_end c) past).seq ≡ k) × ((mark (other_end c) past).verdict ≡ Verdicts.Accepted)

-- w messages of the serial are to be sent, and n were ever accepted
pub data Situation (s : Serial) (past : List Entry) (w n : ℕ) : Type 0 where
  Waits : puts s past ≡ 0 → NoneFresh s past → IsUnbound s (sent_by past) → w ≤ n → Situation s past w n
  Flies : (c : Channel) (m : Message) → bound_message c past ≡ Some m → m.serial ≡ s → IsOnlyOn s c (sent_by past) → FreshOn s c (sequence c past) past →
      (puts s past ≡ 0) ⊎ ((puts s past ≡ 1) × IsAcceptedAt c (sequence c past) past) → w ≡ 0 → n ≡ 1 → Situation s past w n
  Ended : (c : Channel) (k : ℕ) → IsUnbound s (sent_by past) → FreshOn s c k past → (puts s past ≡ 0) ⊎ ((puts s past ≡ 1) × NoneFresh s past) → w ≡ 0 → n ≡ 1 →
      Situation s past w n

-- an accepted mark at a sequence leaves nothing fresh there
none_at_accepted : (past : List Entry) (q : Parcel) (c : Channel) (k : ℕ) → parcel_channel q ≡ c → q.seq ≡ k → IsAcceptedAt c k past → IsFresh past q → ⊥
none_at_accepted past q c k on seq at fresh =
    let f : IsPast (mark (other_end c) past) q.seq q.attempt = subst (λ (d : Channel). IsPast (mark (other_end d) past) q.seq q.attempt) on fresh in
    ⊎_elim
    (λ (above : (mark (other_end c) past).seq < q.seq). omega (arith, above, at.0, seq))
    (λ (here : (q.seq ≡ (mark (other_end c) past).seq) × ((mark (other_end c) past).attempt < q.attempt) ×
    ((mark (other_end c) past).verdict ≢ Verdicts.Accepted)). here.2 at.1)
    f

-- parcels after one entry more: those before, or the one of a channel that then has its message
pub parcel_more : (layout : Layout) (past : List Entry) (x : Entry) → MayFollow layout past x → (q : Parcel) → EmittedIn (Packets.Parcel q) (past ++ x ∷ []) →
    EmittedIn (Packets.Parcel q) past ⊎ IsCurrent (sender (parcel_channel q) (past ++ x ∷ [])) q
parcel_more layout past x may q h = ⊎_elim (λ before. inl before) (λ now. inr (new_parcel layout past x may q now)) (emitted_more (Packets.Parcel q) past x h)

-- with no channel bound, nothing fresh comes
pub none_fresh_more : (layout : Layout) (past : List Entry) (x : Entry) → MayFollow layout past x → (s : Serial) → NoneFresh s past →
    IsUnbound s (sent_by (past ++ x ∷ [])) → NoneFresh s (past ++ x ∷ [])
none_fresh_more layout past x may s none unbound = λ q h is fresh.
    ⊎_elim (λ before. none q before is (fresh_before layout past x may q fresh))
    (λ (now : IsCurrent (sender (parcel_channel q) (past ++ x ∷ [])) q). unbound (parcel_channel q) q.message now.message is)
    (parcel_more layout past x may q h)

fresh_on_unbound : (layout : Layout) (past : List Entry) (x : Entry) → MayFollow layout past x → (s : Serial) (c : Channel) (k : ℕ) → FreshOn s c k past →
    IsUnbound s (sent_by (past ++ x ∷ [])) → FreshOn s c k (past ++ x ∷ [])
fresh_on_unbound layout past x may s c k on unbound = λ q h is fresh.
    ⊎_elim (λ before. on q before is (fresh_before layout past x may q fresh))
    (λ (now : IsCurrent (sender (parcel_channel q) (past ++ x ∷ [])) q). absurd (unbound (parcel_channel q) q.message now.message is))
    (parcel_more layout past x may q h)

-- with one channel bound, what comes fresh is its current sequence
fresh_on_bound : (layout : Layout) (past : List Entry) (x : Entry) → MayFollow layout past x → (s : Serial) (c : Channel) (k : ℕ) → FreshOn s c k past →
    sequence c (past ++ x ∷ []) ≡ k → IsOnlyOn s c (sent_by (past ++ x ∷ [])) → FreshOn s c k (past ++ x ∷ [])
fresh_on_bound layout past x may s c k on seq only = λ q h is fresh.
    ⊎_elim (λ before. on q before is (fresh_before layout past x may q fresh))
    (λ (now : IsCurrent (sender (parcel_channel q) (past ++ x ∷ [])) q).
    let same : parcel_channel q ≡ c = only (parcel_channel q) q.message now.message is in
    (same, now.seq ∙ ap (λ (d : Channel). sequence d (past ++ x ∷ [])) same ∙ seq))
    (parcel_more layout past x may q h)

-- an accepted mark at the current sequence stays
accepted_stays : (layout : Layout) (past : List Entry) (x : Entry) → MayFollow layout past x → ChannelsKept past → (c : Channel) →
    IsAcceptedAt c (sequence c past) past → IsAcceptedAt c (sequence c past) (past ++ x ∷ [])
accepted_stays layout past x may k c at =
    ⊎_elim
    (λ (same : mark (other_end c) (past ++ x ∷ []) ≡ mark (other_end c) past). (ap (λ (m : Mark). m.seq) same ∙ at.0, ap (λ (m : Mark). m.verdict) same ∙ at.1))
    (λ (by : Decides past (mark (other_end c) past) (mark (other_end c) (past ++ x ∷ [])) (other_end c)).
    let of : IsOf (sender c past) by.by = subst (λ (d : Channel). IsOf (sender d past) by.by) by.on (k.parcels by.by by.emitted) in
    absurd (⊎_elim
    (λ (above : (mark (other_end c) past).seq < by.by.seq). omega (arith, above, of.seq, at.0))
    (λ (here : (by.by.seq ≡ (mark (other_end c) past).seq) × ((mark (other_end c) past).attempt < by.by.attempt) ×
    ((mark (other_end c) past).verdict ≢ Verdicts.Accepted)). here.2 at.1)
    by.fresh))
    (mark_moves layout (other_end c) past x may)

pub puts_push : (s : Serial) (past : List Entry) (x : Entry) → puts s (past ++ x ∷ []) ≡ puts s past + bit (passes (has_serial s) (put_of x))
puts_push s past x = role_push put_in (has_serial s) past x

-- nothing of the serial is put, or a message of it is
pub put_or_not : (s : Serial) (m : Option Message) → (bit (passes (has_serial s) m) ≡ 0) ⊎
    ((n : Message) × (m ≡ Some n) × (n.serial ≡ s) × (bit (passes (has_serial s) m) ≡ 1))
put_or_not s None = inl refl
put_or_not s (Some n) = by_test (same_serial s n.serial) refl
  where
    by_test : (t : Bool) → same_serial s n.serial ≡ t → (bit t ≡ 0) ⊎ ((k : Message) × (Some n ≡ Some k) × (k.serial ≡ s) × (bit t ≡ 1))
    by_test true h = inr (n, refl, sym (same_serial-is s n.serial h), refl)
    by_test false h = inl refl

pub no_puts : (s : Serial) (past : List Entry) (x : Entry) → put_of x ≡ None → puts s (past ++ x ∷ []) ≡ puts s past
no_puts s past x none = let p : bit (passes (has_serial s) (put_of x)) ≡ 0 = ap (λ (m : Option Message). bit (passes (has_serial s) m)) none in
    omega (arith, puts_push s past x, p)

-- the sending ends are as they were: what is bound is bound, and nothing else
unbound_same : (s : Serial) (old new : Channel → Sender) → ((c : Channel) → IsSame (old c) (new c)) → IsUnbound s old → IsUnbound s new
unbound_same s old new same unbound = λ c m h is. unbound c m (sym (same c).bound ∙ h) is

only_same : (s : Serial) (at : Channel) (old new : Channel → Sender) → ((c : Channel) → IsSame (old c) (new c)) → IsOnlyOn s at old → IsOnlyOn s at new
only_same s at old new same only = λ c m h is. only c m (sym (same c).bound ∙ h) is

-- a put of a serial that is all on one channel and sequence
put_there : (layout : Layout) (past : List Entry) (x : Entry) (s : Serial) (c : Channel) (k : ℕ) (m : Message) → m.serial ≡ s → FreshOn s c k past →
    IsPut past (λ d. mark d (past ++ x ∷ [])) m → IsAcceptedAt c k (past ++ x ∷ []) × (IsAcceptedAt c k past → ⊥)
put_there layout past x s c k m is on p =
    let at = on p.by p.emitted (ap (λ (w : Message). w.serial) p.message ∙ is) p.fresh in
    let mk : mark (other_end c) (past ++ x ∷ []) ≡ record {
      seq = p.by.seq;
      attempt = p.by.attempt;
      verdict = Verdicts.Accepted;
    } = subst (λ (d : Channel). mark (other_end d) (past ++ x ∷ []) ≡ record {
      seq = p.by.seq;
      attempt = p.by.attempt;
      verdict = Verdicts.Accepted;
    }) at.0 p.marked in
    ((ap (λ (w : Mark). w.seq) mk ∙ at.1, ap (λ (w : Mark). w.verdict) mk), λ before. none_at_accepted past p.by c k at.0 at.1 before p.fresh)

-- nothing is fresh where all was on a sequence that is accepted
none_after : (layout : Layout) (past : List Entry) (x : Entry) → MayFollow layout past x → (s : Serial) (c : Channel) (k : ℕ) → FreshOn s c k past →
    IsUnbound s (sent_by (past ++ x ∷ [])) → IsAcceptedAt c k (past ++ x ∷ []) → NoneFresh s (past ++ x ∷ [])
none_after layout past x may s c k on unbound at = λ q h is fresh.
    let there = fresh_on_unbound layout past x may s c k on unbound q h is fresh in none_at_accepted (past ++ x ∷ []) q c k there.0 there.1 at fresh

-- one entry more that keeps the sending ends
pub keeps_on : (layout : Layout) (past : List Entry) (x : Entry) → MayFollow layout past x → ((end : EndpointId) → x.event ≢ Events.Carry end) →
    ChannelsKept past → (s : Serial) (w n w' n' : ℕ) → ((c : Channel) → IsSame (sender c past) (sender c (past ++ x ∷ []))) → Situation s past w n →
    w' + n ≤ w + n' → n ≤ n' → n' ≤ 1 → Situation s (past ++ x ∷ []) w' n'
keeps_on layout past x may apart k s w n w' n' same (Waits none fresh unbound few) hw hn top =
    ⊎_elim
    (λ (not : bit (passes (has_serial s) (put_of x)) ≡ 0).
    let unbound' = unbound_same s (sent_by past) (sent_by (past ++ x ∷ [])) same unbound in
    Waits (omega (arith, none, not, puts_push s past x)) (none_fresh_more layout past x may s fresh unbound') unbound' (omega (arith, few, hw)))
    (λ (is : (m : Message) × (put_of x ≡ Some m) × (m.serial ≡ s) × (bit (passes (has_serial s) (put_of x)) ≡ 1)).
    let p = put_is layout past x may apart is.0 is.1 in absurd (fresh p.by p.emitted (ap (λ (q : Message). q.serial) p.message ∙ is.2) p.fresh))
    (put_or_not s (put_of x))
keeps_on layout past x may apart k s w n w' n' same (Flies c m at of only on put none one) hw hn top =
    let only' = only_same s c (sent_by past) (sent_by (past ++ x ∷ [])) same only in
    let seq : sequence c (past ++ x ∷ []) ≡ sequence c past = (same c).seq in
    let on' : FreshOn s c (sequence c (past ++ x ∷ [])) (past ++ x ∷ []) =
    subst (λ (j : ℕ). FreshOn s c j (past ++ x ∷ [])) (sym seq) (fresh_on_bound layout past x may s c (sequence c past) on seq only') in
    Flies c m ((same c).bound ∙ at) of only' on'
    (⊎_elim
    (λ (not : bit (passes (has_serial s) (put_of x)) ≡ 0).
    ⊎_elim
    (λ (z : puts s past ≡ 0). inl (omega (arith, z, not, puts_push s past x)))
    (λ (o : (puts s past ≡ 1) × IsAcceptedAt c (sequence c past) past).
    inr (
      omega (arith, o.0, not, puts_push s past x),
      subst (λ (j : ℕ). IsAcceptedAt c j (past ++ x ∷ [])) (sym seq)
          (accepted_stays layout past x may k c o.1),
    ))
    put)
    (λ (is : (m : Message) × (put_of x ≡ Some m) × (m.serial ≡ s) × (bit (passes (has_serial s) (put_of x)) ≡ 1)).
    let there = put_there layout past x s c (sequence c past) is.0 is.2 on (put_is layout past x may apart is.0 is.1) in
    ⊎_elim
    (λ (z : puts s past ≡ 0). inr (omega (arith, z, is.3, puts_push s past x), subst (λ (j : ℕ). IsAcceptedAt c j (past ++ x ∷ [])) (sym seq) there.0))
    (λ (o : (puts s past ≡ 1) × IsAcceptedAt c (sequence c past) past). absurd (there.1 o.1))
    put)
    (put_or_not s (put_of x)))
    (omega (arith, none, one, hw, hn, top)) (omega (arith, one, hn, top))
keeps_on layout past x may apart k s w n w' n' same (Ended c j unbound on put none one) hw hn top =
    let unbound' = unbound_same s (sent_by past) (sent_by (past ++ x ∷ [])) same unbound in
    Ended c j unbound' (fresh_on_unbound layout past x may s c j on unbound')
    (⊎_elim
    (λ (not : bit (passes (has_serial s) (put_of x)) ≡ 0).
    ⊎_elim
    (λ (z : puts s past ≡ 0). inl (omega (arith, z, not, puts_push s past x)))
    (λ (o : (puts s past ≡ 1) × NoneFresh s past). inr (omega (arith, o.0, not, puts_push s past x), none_fresh_more layout past x may s o.1 unbound'))
    put)
    (λ (is : (m : Message) × (put_of x ≡ Some m) × (m.serial ≡ s) × (bit (passes (has_serial s) (put_of x)) ≡ 1)).
    let p = put_is layout past x may apart is.0 is.1 in
    let there = put_there layout past x s c j is.0 is.2 on p in
    ⊎_elim
    (λ (z : puts s past ≡ 0). inr (omega (arith, z, is.3, puts_push s past x), none_after layout past x may s c j on unbound' there.0))
    (λ (o : (puts s past ≡ 1) × NoneFresh s past). absurd (o.1 p.by p.emitted (ap (λ (q : Message). q.serial) p.message ∙ is.2) p.fresh))
    put)
    (put_or_not s (put_of x)))
    (omega (arith, none, one, hw, hn, top)) (omega (arith, one, hn, top))

-- one entry more that binds a message of another serial
unbound_other : (s : Serial) (at : Channel) (m : Message) (old new : Channel → Sender) → ((c : Channel) → IsBoundTo at m c (old c) (new c)) → m.serial ≢ s →
    IsUnbound s old → IsUnbound s new
unbound_other s at m old new binds other unbound = λ c k h is.
    ⊎_elim
    (λ (here : (c ≡ at) × ((new c).seq ≡ (old c).seq + 1) × ((new c).bound ≡ Some m)). let both : Some m ≡ Some k = sym here.2
    ∙ h in let same : m ≡ k = cc in
    other (ap (λ (w : Message). w.serial) same ∙ is))
    (λ (away : (c ≢ at) × IsSame (old c) (new c)). unbound c k (sym away.1.bound ∙ h) is)
    (binds c)

pub binds_other : (layout : Layout) (past : List Entry) (x : Entry) → MayFollow layout past x → ChannelsKept past →
    (s : Serial) (w n w' n' : ℕ) (at : Channel) (m : Message) → bound_message at past ≡ None →
    ((c : Channel) → IsBoundTo at m c (sender c past) (sender c (past ++ x ∷ []))) → put_of x ≡ None → m.serial ≢ s → Situation s past w n → w' + n ≤ w + n' →
    n ≤ n' → n' ≤ 1 → Situation s (past ++ x ∷ []) w' n'
binds_other layout past x may k s w n w' n' at m free binds still other (Waits none fresh unbound few) hw hn top =
    let unbound' = unbound_other s at m (sent_by past) (sent_by (past ++ x ∷ [])) binds other unbound in
    Waits (no_puts s past x still ∙ none) (none_fresh_more layout past x may s fresh unbound') unbound' (omega (arith, few, hw))
binds_other layout past x may k s w n w' n' at m free binds still other (Flies c f bound of only on put none one) hw hn top =
    ⊎_elim
    (λ (here : (c ≡ at) × (sequence c (past ++ x ∷ []) ≡ sequence c past + 1) × (bound_message c (past ++ x ∷ []) ≡ Some m)).
    let empty : bound_message c past ≡ None = subst (λ (d : Channel). bound_message d past ≡ None) (sym here.0) free in
    let both : None ≡ Some f = sym empty ∙ bound in absurd (cc))
    (λ (away : (c ≢ at) × IsSame (sender c past) (sender c (past ++ x ∷ []))).
    let seq : sequence c (past ++ x ∷ []) ≡ sequence c past = away.1.seq in
    let only' : IsOnlyOn s c (sent_by (past ++ x ∷ [])) = λ d g h is.
    ⊎_elim
    (λ (here : (d ≡ at) × (sequence d (past ++ x ∷ []) ≡ sequence d past + 1) × (bound_message d (past ++ x ∷ []) ≡ Some m)).
    let both : Some m ≡ Some g = sym here.2 ∙ h in
    let same : m ≡ g = cc in
    absurd (other (ap (λ (v : Message). v.serial) same ∙ is)))
    (λ (off : (d ≢ at) × IsSame (sender d past) (sender d (past ++ x ∷ []))). only d g (sym off.1.bound ∙ h) is)
    (binds d) in
    Flies c f (away.1.bound ∙ bound) of only'
    (subst (λ (j : ℕ). FreshOn s c j (past ++ x ∷ [])) (sym seq) (fresh_on_bound layout past x may s c (sequence c past) on seq only'))
    (⊎_elim
    (λ (z : puts s past ≡ 0). inl (no_puts s past x still ∙ z))
    (λ (o : (puts s past ≡ 1) × IsAcceptedAt c (sequence c past) past). inr (
      no_puts s past x still
          ∙ o.0,
      subst (λ (j : ℕ). IsAcceptedAt c j (past ++ x ∷ [])) (sym seq) (accepted_stays layout past x may k c o.1),
    ))
    put)
    (omega (arith, none, one, hw, hn, top)) (omega (arith, one, hn, top)))
    (binds c)
binds_other layout past x may k s w n w' n' at m free binds still other (Ended c j unbound on put none one) hw hn top =
    let unbound' = unbound_other s at m (sent_by past) (sent_by (past ++ x ∷ [])) binds other unbound in
    Ended c j unbound' (fresh_on_unbound layout past x may s c j on unbound')
    (⊎_elim
    (λ (z : puts s past ≡ 0). inl (no_puts s past x still ∙ z))
    (λ (o : (puts s past ≡ 1) × NoneFresh s past). inr (no_puts s past x still ∙ o.0, none_fresh_more layout past x may s o.1 unbound'))
    put)
    (omega (arith, none, one, hw, hn, top)) (omega (arith, one, hn, top))

-- one entry more that binds a message of this serial, which waited
pub binds_this : (layout : Layout) (past : List Entry) (x : Entry) → MayFollow layout past x → (s : Serial) (w n w' n' : ℕ) (at : Channel) (m : Message) →
    ((c : Channel) → IsBoundTo at m c (sender c past) (sender c (past ++ x ∷ []))) → put_of x ≡ None → m.serial ≡ s → Situation s past w n →
    w' + 1 + n ≤ w + n' → n ≤ n' → n' ≤ 1 → Situation s (past ++ x ∷ []) w' n'
binds_this layout past x may s w n w' n' at m binds still is (Waits none fresh unbound few) hw hn top =
    let there : bound_message at (past ++ x ∷ []) ≡ Some m =
    ⊎_elim (λ (here : (at ≡ at) × (sequence at (past ++ x ∷ []) ≡ sequence at past + 1) × (bound_message at (past ++ x ∷ []) ≡ Some m)). here.2)
    (λ (away : (at ≢ at) × IsSame (sender at past) (sender at (past ++ x ∷ []))). absurd (away.0 refl)) (binds at) in
    let only' : IsOnlyOn s at (sent_by (past ++ x ∷ [])) = λ d g h same.
    ⊎_elim (λ (here : (d ≡ at) × (sequence d (past ++ x ∷ []) ≡ sequence d past + 1) × (bound_message d (past ++ x ∷ []) ≡ Some m)). here.0)
    (λ (off : (d ≢ at) × IsSame (sender d past) (sender d (past ++ x ∷ []))). absurd (unbound d g (sym off.1.bound ∙ h) same)) (binds d) in
    Flies at m there is only'
    (fresh_on_bound layout past x may s at (sequence at (past ++ x ∷ [])) (λ q h same f. absurd (fresh q h same f)) refl only')
    (inl (no_puts s past x still ∙ none))
    (omega (arith, few, hw, hn, top)) (omega (arith, few, hw, hn, top))
binds_this layout past x may s w n w' n' at m binds still is (Flies c f bound of only on put none one) hw hn top =
    absurd (omega (arith, none, one, hw, hn, top))
binds_this layout past x may s w n w' n' at m binds still is (Ended c j unbound on put none one) hw hn top = absurd (omega (arith, none, one, hw, hn, top))

-- one entry more that frees a channel
unbound_freed : (s : Serial) (at : Channel) (old new : Channel → Sender) → ((c : Channel) → IsFreedAt at c (old c) (new c)) → IsOnlyOn s at old →
    IsUnbound s new
unbound_freed s at old new frees only = λ c k h is.
    ⊎_elim
    (λ (here : (c ≡ at) × ((new c).seq ≡ (old c).seq) × ((new c).bound ≡ None)). let both : None ≡ Some k = sym here.2 ∙ h in cc)
    (λ (away : (c ≢ at) × IsSame (old c) (new c)). away.0 (only c k (sym away.1.bound ∙ h) is))
    (frees c)

-- of a message of another serial
pub frees_other : (layout : Layout) (past : List Entry) (x : Entry) → MayFollow layout past x → ChannelsKept past →
    (s : Serial) (w n w' n' : ℕ) (at : Channel) (m : Message) → bound_message at past ≡ Some m →
    ((c : Channel) → IsFreedAt at c (sender c past) (sender c (past ++ x ∷ []))) → put_of x ≡ None → m.serial ≢ s → Situation s past w n → w' + n ≤ w + n' →
    n ≤ n' → n' ≤ 1 → Situation s (past ++ x ∷ []) w' n'
frees_other layout past x may k s w n w' n' at m held frees still other (Waits none fresh unbound few) hw hn top =
    let unbound' = unbound_freed s at (sent_by past) (sent_by (past ++ x ∷ [])) frees (λ c g h is. absurd (unbound c g h is)) in
    Waits (no_puts s past x still ∙ none) (none_fresh_more layout past x may s fresh unbound') unbound' (omega (arith, few, hw))
frees_other layout past x may k s w n w' n' at m held frees still other (Flies c f bound of only on put none one) hw hn top =
    ⊎_elim
    (λ (here : (c ≡ at) × (sequence c (past ++ x ∷ []) ≡ sequence c past) × (bound_message c (past ++ x ∷ []) ≡ None)).
    let there : bound_message c past ≡ Some m = subst (λ (d : Channel). bound_message d past ≡ Some m) (sym here.0) held in
    let both : Some m ≡ Some f = sym there ∙ bound in let same : m ≡ f = cc in absurd (other (ap (λ (v : Message). v.serial) same ∙ of)))
    (λ (away : (c ≢ at) × IsSame (sender c past) (sender c (past ++ x ∷ []))).
    let seq : sequence c (past ++ x ∷ []) ≡ sequence c past = away.1.seq in
    let only' : IsOnlyOn s c (sent_by (past ++ x ∷ [])) = λ d g h is.
    ⊎_elim
    (λ (here : (d ≡ at) × (sequence d (past ++ x ∷ []) ≡ sequence d past) × (bound_message d (past ++ x ∷ []) ≡ None)). let both : None ≡ Some g = sym here.2
    ∙ h in absurd (cc))
    (λ (off : (d ≢ at) × IsSame (sender d past) (sender d (past ++ x ∷ []))). only d g (sym off.1.bound ∙ h) is)
    (frees d) in
    Flies c f (away.1.bound ∙ bound) of only'
    (subst (λ (j : ℕ). FreshOn s c j (past ++ x ∷ [])) (sym seq) (fresh_on_bound layout past x may s c (sequence c past) on seq only'))
    (⊎_elim
    (λ (z : puts s past ≡ 0). inl (no_puts s past x still ∙ z))
    (λ (o : (puts s past ≡ 1) × IsAcceptedAt c (sequence c past) past). inr (
      no_puts s past x still
          ∙ o.0,
      subst (λ (j : ℕ). IsAcceptedAt c j (past ++ x ∷ [])) (sym seq) (accepted_stays layout past x may k c o.1),
    ))
    put)
    (omega (arith, none, one, hw, hn, top)) (omega (arith, one, hn, top)))
    (frees c)
frees_other layout past x may k s w n w' n' at m held frees still other (Ended c j unbound on put none one) hw hn top =
    let unbound' = unbound_freed s at (sent_by past) (sent_by (past ++ x ∷ [])) frees (λ d g h is. absurd (unbound d g h is)) in
    Ended c j unbound' (fresh_on_unbound layout past x may s c j on unbound')
    (⊎_elim
    (λ (z : puts s past ≡ 0). inl (no_puts s past x still ∙ z))
    (λ (o : (puts s past ≡ 1) × NoneFresh s past). inr (no_puts s past x still ∙ o.0, none_fresh_more layout past x may s o.1 unbound'))
    put)
    (omega (arith, none, one, hw, hn, top)) (omega (arith, one, hn, top))

-- of a message of this serial, for good
pub ends_this : (layout : Layout) (past : List Entry) (x : Entry) → MayFollow layout past x → ChannelsKept past →
    (s : Serial) (w n w' n' : ℕ) (at : Channel) (m : Message) → bound_message at past ≡ Some m →
    ((c : Channel) → IsFreedAt at c (sender c past) (sender c (past ++ x ∷ []))) → put_of x ≡ None → m.serial ≡ s → Situation s past w n → w' + n ≤ w + n' →
    n ≤ n' → n' ≤ 1 → Situation s (past ++ x ∷ []) w' n'
ends_this layout past x may k s w n w' n' at m held frees still is (Waits none fresh unbound few) hw hn top = absurd (unbound at m held is)
ends_this layout past x may k s w n w' n' at m held frees still is (Ended c j unbound on put none one) hw hn top = absurd (unbound at m held is)
ends_this layout past x may k s w n w' n' at m held frees still is (Flies c f bound of only on put none one) hw hn top =
    let same : at ≡ c = only at m held is in
    let unbound' = unbound_freed s at (sent_by past) (sent_by (past ++ x ∷ [])) frees (λ d g h e. only d g h e ∙ sym same) in
    Ended c (sequence c past) unbound' (fresh_on_unbound layout past x may s c (sequence c past) on unbound')
    (⊎_elim
    (λ (z : puts s past ≡ 0). inl (no_puts s past x still ∙ z))
    (λ (o : (puts s past ≡ 1) × IsAcceptedAt c (sequence c past) past). inr (
      no_puts s past x still
          ∙ o.0,
      none_after layout past x may s c (sequence c past) on unbound' (accepted_stays layout past x may k c o.1),
    ))
    put)
    (omega (arith, none, one, hw, hn, top)) (omega (arith, one, hn, top))

-- of a message of this serial, by a refusal of its current try
pub refuses_this : (layout : Layout) (past : List Entry) (x : Entry) → MayFollow layout past x → ChannelsKept past →
    (s : Serial) (w n w' n' : ℕ) (at : Channel) (m : Message) → bound_message at past ≡ Some m →
    ((c : Channel) → IsFreedAt at c (sender c past) (sender c (past ++ x ∷ []))) → (a : AnswerPacket) (cause : Cause) → IsRefusal past at a cause →
    put_of x ≡ None → m.serial ≡ s → Situation s past w n → w' + n ≤ w + 1 + n' → n ≤ n' → n' ≤ 1 → Situation s (past ++ x ∷ []) w' n'
refuses_this layout past x may k s w n w' n' at m held frees a cause r still is (Waits none fresh unbound few) hw hn top = absurd (unbound at m held is)
refuses_this layout past x may k s w n w' n' at m held frees a cause r still is (Ended c j unbound on put none one) hw hn top = absurd (unbound at m held is)
refuses_this layout past x may k s w n w' n' at m held frees a cause r still is (Flies c f bound of only on put none one) hw hn top =
    let same : at ≡ c = only at m held is in
    let there : other_end (answer_channel a) ≡ c = r.on ∙ same in
    let seq : a.seq ≡ sequence (other_end (answer_channel a)) past = r.seq ∙ ap (λ (d : Channel). sequence d past) (sym r.on) in
    let try : a.attempt ≡ attempt (other_end (answer_channel a)) past = r.attempt ∙ ap (λ (d : Channel). attempt d past) (sym r.on) in
    let marks = refusal_marks past k a cause r.emitted r.verdict seq try in
    let unbound' = unbound_freed s at (sent_by past) (sent_by (past ++ x ∷ [])) frees (λ d g h e. only d g h e ∙ sym same) in
    let nothing : NoneFresh s past = λ q h e fresh.
    let on_c = on q h e fresh in
    let to_end : parcel_channel q ≡ other_end (answer_channel a) = on_c.0 ∙ sym there in
    refusal_stands past k a cause r.emitted r.verdict seq try q h to_end (subst (λ (d : Channel). IsPast (mark d past) q.seq q.attempt) (ap other_end to_end)
    fresh) in
    Waits
    (⊎_elim
    (λ (z : puts s past ≡ 0). no_puts s past x still ∙ z)
    (λ (o : (puts s past ≡ 1) × IsAcceptedAt c (sequence c past) past).
    let at_end : (mark (answer_channel a) past).verdict ≡ Verdicts.Accepted = ap (λ (d : Channel). (mark (other_end d) past).verdict) there ∙ o.1.1 in
    let both : Verdicts.Refused cause ≡ Verdicts.Accepted = sym marks.2 ∙ at_end in absurd (cc))
    put)
    (none_fresh_more layout past x may s nothing unbound') unbound' (omega (arith, none, one, hw, hn, top))

-- a refusal of its current try leaves nothing of the serial to be put
pub refused_for_good : (layout : Layout) (past : List Entry) (x : Entry) → MayFollow layout past x → ChannelsKept past →
    (s : Serial) (w n : ℕ) (at : Channel) (m : Message) → bound_message at past ≡ Some m →
    ((c : Channel) → IsFreedAt at c (sender c past) (sender c (past ++ x ∷ []))) → (a : AnswerPacket) (cause : Cause) → IsRefusal past at a cause →
    put_of x ≡ None → m.serial ≡ s → Situation s past w n → (puts s (past ++ x ∷ []) ≡ 0) × NoneFresh s (past ++ x ∷ [])
refused_for_good layout past x may k s w n at m held frees a cause r still is (Waits none fresh unbound few) = absurd (unbound at m held is)
refused_for_good layout past x may k s w n at m held frees a cause r still is (Ended c j unbound on put none one) = absurd (unbound at m held is)
refused_for_good layout past x may k s w n at m held frees a cause r still is (Flies c f bound of only on put none one) =
    let same : at ≡ c = only at m held is in
    let there : other_end (answer_channel a) ≡ c = r.on ∙ same in
    let seq : a.seq ≡ sequence (other_end (answer_channel a)) past = r.seq ∙ ap (λ (d : Channel). sequence d past) (sym r.on) in
    let try : a.attempt ≡ attempt (other_end (answer_channel a)) past = r.attempt ∙ ap (λ (d : Channel). attempt d past) (sym r.on) in
    let marks = refusal_marks past k a cause r.emitted r.verdict seq try in
    let unbound' = unbound_freed s at (sent_by past) (sent_by (past ++ x ∷ [])) frees (λ d g h e. only d g h e ∙ sym same) in
    let nothing : NoneFresh s past = λ q h e fresh.
    let on_c = on q h e fresh in
    let to_end : parcel_channel q ≡ other_end (answer_channel a) = on_c.0 ∙ sym there in
    refusal_stands past k a cause r.emitted r.verdict seq try q h to_end (subst (λ (d : Channel). IsPast (mark d past) q.seq q.attempt) (ap other_end to_end)
    fresh) in (
      ⊎_elim
          (λ (z : puts s past ≡ 0). no_puts s past x still ∙ z)
          (λ (o : (puts s past ≡ 1) × IsAcceptedAt c (sequence c past) past).
          let at_end : (mark (answer_channel a) past).verdict ≡ Verdicts.Accepted = ap (λ (d : Channel). (mark (other_end d) past).verdict) there ∙ o.1.1 in
          let both : Verdicts.Refused cause ≡ Verdicts.Accepted = sym marks.2 ∙ at_end in absurd (cc))
          put,
      none_fresh_more layout past x may s nothing unbound',
    )

-- what is put was accepted
pub put_when_accepted : (s : Serial) (past : List Entry) (w n : ℕ) → Situation s past w n → puts s past ≤ n
put_when_accepted s past w n (Waits none fresh unbound few) = omega (arith, none)
put_when_accepted s past w n (Flies c m is of only fresh put w' one) =
    ⊎_elim (λ (none : puts s past ≡ 0). omega (arith, none)) (λ (o : (puts s past ≡ 1) × IsAcceptedAt c (sequence c past) past). omega (arith, o.0, one)) put
put_when_accepted s past w n (Ended c k unbound fresh put w' one) =
    ⊎_elim (λ (none : puts s past ≡ 0). omega (arith, none)) (λ (o : (puts s past ≡ 1) × NoneFresh s past). omega (arith, o.0, one)) put
