-- What the receiver's moves keep.
use Rattle.std.specs.Prelude.{count_by}
use Rattle.std.proofs.Common.{◌≡◌, ℕ, ◌≤◌, ◌<◌, ◌⊎◌, inl, inr, List, [], ◌∷◌, ◌++◌, refl, sym, ap, ◌∙◌, subst, arith}
use Rattle.std.proofs.lemmas.Bool.{ne_eqb, cases_lt}
use Rattle.am_names.specs.declared.Verdict.{Verdict}
use Rattle.am_model.specs.Channels.{arrival}
use Rattle.am_model.specs.Channels as Arrivals
use Rattle.am_restart.specs.declared.ends.Sender.{Sender}
use Rattle.am_restart.specs.declared.ends.Receiver.{Receiver}
use Rattle.am_restart.specs.declared.events.SessionEntry.{SessionEntry}
use Rattle.am_restart.specs.declared.packets.SessionParcel.{SessionParcel}
use Rattle.am_restart.specs.declared.packets.SessionAnswer.{SessionAnswer}
use Rattle.am_restart.specs.declared.packets.SenderPacket.{SenderPacket}
use Rattle.am_restart.specs.declared.packets.ReceiverPacket.{ReceiverPacket}
use Rattle.am_restart.specs.declared.packets.ReceiverPacket.TheVariants as FromReceiver
use Rattle.am_restart.specs.Ends as Ends
use Rattle.am_restart.proofs.Keys.{Point, Numbers, IsClosed, IsSettled, IsFresh, IsSame, not_fresh, settled_closed, earlier_closed}
use Rattle.am_restart.proofs.Lists.{Among, among_cases, none_pass}
use Rattle.am_restart.proofs.Orders.{UpTo, Before, turned, place, ordered}
use Rattle.am_restart.proofs.LawParts.{Emitted, SenderPart, Dead, DeadPart, ReceiverPart, Refuses, answer_numbers, is_taken}
use Rattle.am_restart.proofs.Points.{Stays, HasMet, has_met, IsAt, again_of, point, numbers, weight}

-- an answer, of which that it refuses tells the truth
abbrev pub IsTrue' : Point → List SessionParcel → ReceiverPacket → Type 0
IsTrue' o taken (FromReceiver.Answer a) = ◌≡◌ {A = ℕ} (weight a.verdict) 0 → Refuses o taken a
IsTrue' o taken (FromReceiver.Welcome sender receiver) = receiver ≤ o.incarnation

truth_at : (back : List ReceiverPacket) (packet : ReceiverPacket) (o : Point) (taken : List SessionParcel) → IsTrue' o taken packet → (a : SessionAnswer) →
    FromReceiver.Answer a ≡ packet → ◌≡◌ {A = ℕ} (weight a.verdict) 0 → Refuses o taken a
truth_at back packet o taken is a e light =
    let at : IsTrue' o taken (FromReceiver.Answer a) = subst (IsTrue' o taken) (sym e) is in at light

-- the receiver goes on with nothing more taken
pub receiver_goes : (out : List SenderPacket) (back : List ReceiverPacket) (o later : Point) (taken : List SessionParcel) → ReceiverPart out back o taken →
    Stays o later → ReceiverPart out back later taken
receiver_goes out back o later taken h stays =
    record {
      emitted = h.emitted;
      settled = λ d there. stays.settled (numbers d) (h.settled d there);
      answers = λ a there light. let r : Refuses o taken a = h.answers a there light in record {
        closed = stays.closed (answer_numbers a) r.closed;
        untaken = r.untaken;
      };
      welcomes = λ sender receiver there. omega (arith, h.welcomes sender receiver there, stays.life);
    }

-- it emits a packet that tells the truth
pub receiver_emits : (out : List SenderPacket) (back : List ReceiverPacket) (o : Point) (taken : List SessionParcel) (packet : ReceiverPacket) →
    ReceiverPart out back o taken → IsTrue' o taken packet → ReceiverPart out (back ++ packet ∷ []) o taken
receiver_emits out back o taken packet h is =
    record {
      emitted = h.emitted;
      settled = h.settled;
      answers = λ a there light. over_answer a (among_cases (FromReceiver.Answer a) back packet there) light;
      welcomes = λ sender receiver there. over_welcome sender receiver (among_cases (FromReceiver.Welcome sender receiver) back packet there);
    }
  where
    over_answer : (a : SessionAnswer) → Among (FromReceiver.Answer a) back ⊎ (FromReceiver.Answer a ≡ packet) → ◌≡◌ {A = ℕ} (weight a.verdict) 0 →
        Refuses o taken a
    over_answer a (inl there) light = h.answers a there light
    over_answer a (inr e) light = truth_at back packet o taken is a e light

    over_welcome : (sender receiver : ℕ) → Among (FromReceiver.Welcome sender receiver) back ⊎ (FromReceiver.Welcome sender receiver ≡ packet) →
        receiver ≤ o.incarnation
    over_welcome sender receiver (inl there) = h.welcomes sender receiver there
    over_welcome sender receiver (inr e) = let at : IsTrue' o taken (FromReceiver.Welcome sender receiver) = subst (IsTrue' o taken) (sym e) is in at

-- the sender emitted more
pub receiver_more : (out more : List SenderPacket) (back : List ReceiverPacket) (o : Point) (taken : List SessionParcel) → ReceiverPart out back o taken →
    ((d : SessionParcel) → Emitted out d → Emitted more d) → ReceiverPart more back o taken
receiver_more out more back o taken h up =
    record { emitted = λ d there. up d (h.emitted d there); settled = h.settled; answers = h.answers; welcomes = h.welcomes }

-- the receiver takes a fresh parcel
pub receiver_takes : (out : List SenderPacket) (back : List ReceiverPacket) (o later : Point) (taken : List SessionParcel) (f : SessionParcel) →
    ReceiverPart out back o taken → Emitted out f → Stays o later → (IsClosed o (numbers f) → ⊥) → IsSettled later (numbers f) →
    ReceiverPart out back later (f ∷ taken)
receiver_takes out back o later taken f h e stays open' settled =
    record {
      emitted = λ d there. over_emitted d there;
      settled = λ d there. over_settled d there;
      answers = λ a there light.
          let r : Refuses o taken a = h.answers a there light in
          record { closed = stays.closed (answer_numbers a) r.closed; untaken = λ d among same. over_untaken a r d among same };
      welcomes = λ sender receiver there. omega (arith, h.welcomes sender receiver there, stays.life);
    }
  where
    over_emitted : (d : SessionParcel) → Among d (f ∷ taken) → Emitted out d
    over_emitted d (inl same) = subst (λ (r : SessionParcel). Emitted out r) (sym same) e
    over_emitted d (inr there) = h.emitted d there

    over_settled : (d : SessionParcel) → Among d (f ∷ taken) → IsSettled later (numbers d)
    over_settled d (inl same) = subst (λ (r : SessionParcel). IsSettled later (numbers r)) (sym same) settled
    over_settled d (inr there) = stays.settled (numbers d) (h.settled d there)

    over_untaken : (a : SessionAnswer) → Refuses o taken a → (d : SessionParcel) → Among d (f ∷ taken) → IsSame (numbers d) (answer_numbers a) →
        a.attempt < d.attempt
    over_untaken a r d (inr there) same = r.untaken d there same
    over_untaken a r d (inl is) same = by_order (cases_lt a.attempt d.attempt)
      where
        by_order : (a.attempt < d.attempt) ⊎ (d.attempt ≤ a.attempt) → a.attempt < d.attempt
        by_order (inl lt) = lt
        by_order (inr le) =
            absurd (open' (subst (λ (r : SessionParcel). IsClosed o (numbers r)) is (earlier_closed o (answer_numbers a) (numbers d) r.closed
            (turned (numbers d) (answer_numbers a) same) le)))

-- no parcel of this message was taken, where a parcel of it isn't closed
pub untaken_before : (σ : Sender) (life offered : ℕ) (out : List SenderPacket) (back : List ReceiverPacket) (queue : List ℕ) (past : List SessionEntry)
    (o : Point) (taken : List SessionParcel) (f : SessionParcel) → SenderPart σ life offered out → DeadPart σ out queue past o taken →
    ReceiverPart out back o taken → Emitted out f → (IsClosed o (numbers f) → ⊥) → count_by (is_taken f.message) taken ≡ 0
untaken_before σ life offered out back queue past o taken f sender dead receiver e open' =
    none_pass (is_taken f.message) taken (λ d there. ne_eqb f.message d.message (λ same. other d there (sym same)))
  where
    other : (d : SessionParcel) → Among d taken → d.message ≡ f.message → ⊥
    other d there same = by_order (ordered (numbers d) (numbers f))
      where
        g : Emitted out d
        g = receiver.emitted d there

        by_place : Before (numbers f) (numbers d) ⊎ IsSame (numbers d) (numbers f) → ⊥
        by_place (inl before) =
            let is : Dead o taken d = dead.later d f g e same before in
            is.untaken d there (record { receiver = refl; sender' = refl; seq = refl })
        by_place (inr alike) = open' (settled_closed o (numbers d) (numbers f) (receiver.settled d there) alike)

        by_order : UpTo (numbers f) (numbers d) ⊎ Before (numbers d) (numbers f) → ⊥
        by_order (inl up) = by_place (place (numbers f) (numbers d) up)
        by_order (inr before) = open' (dead.later f d e g (sym same) before).closed

-- an answer that was given before is true
pub repeats_true : (out : List SenderPacket) (back : List ReceiverPacket) (r : Receiver) (taken : List SessionParcel) (p : SessionParcel) (v : Verdict) →
    ReceiverPart out back (point (Ends.met p.sender r)) taken → p.receiver ≡ r.incarnation → r.newest ≤ p.sender →
    arrival (Ends.met p.sender r).end p.seq p.attempt ≡ Arrivals.Again v →
    IsTrue' (point (Ends.met p.sender r)) taken (FromReceiver.Answer (record {
      sender = p.sender;
      receiver = p.receiver;
      seq = p.seq;
      attempt = p.attempt;
      verdict = v;
    }))
repeats_true out back r taken p v h own newer is light =
    let m : HasMet r p.sender = has_met r p.sender in
    let at : IsAt (Ends.met p.sender r).end v p.seq p.attempt = again_of r p v is in
    let heavy : weight v ≡ weight (Ends.met p.sender r).end.verdict = ap weight at.verdict in
    record {
      closed = record {
        life = omega (arith, own, m.incarnation);
        sender' = λ e. omega (arith, m.newest newer);
        binding = λ e g. omega (arith, at.seq');
        try = λ e g k w. omega (arith, at.attempt' light);
      };
      untaken = λ d there same.
          let s : IsSettled (point (Ends.met p.sender r)) (numbers d) = h.settled d there in
          let one : 1 ≤ weight (Ends.met p.sender r).end.verdict = s.accepted (same.receiver ∙ own ∙ sym m.incarnation) (same.sender'
          ∙ sym (m.newest newer)) (same.seq ∙ at.seq') in
          absurd (omega (arith, one, heavy, light));
    }
