-- Which parcels are dead after a move.
use Rattle.std.specs.Prelude.{count_by, IfSome}
use Rattle.std.proofs.Common.{◌≡◌, ℕ, ◌+◌, ◌≤◌, ◌<◌, true, false, ◌==◌, ◌⊎◌, inl, inr, Option, Some, None, List, [], ◌∷◌, ◌++◌, sym, ap, ◌∙◌, subst, arith}
use Rattle.std.proofs.lemmas.Bool.Decides.{eqb_tells}
use Rattle.am_channel.specs.declared.sending.Bound.{Bound}
use Rattle.am_restart.specs.declared.ends.Sender.{Sender}
use Rattle.am_restart.specs.declared.events.SessionEntry.{SessionEntry}
use Rattle.am_restart.specs.declared.packets.SessionParcel.{SessionParcel}
use Rattle.am_restart.specs.declared.packets.SessionAnswer.{SessionAnswer}
use Rattle.am_restart.specs.declared.packets.SenderPacket.{SenderPacket}
use Rattle.am_restart.specs.declared.packets.SenderPacket.TheVariants as FromSender
use Rattle.am_restart.specs.Ends.{number_of}
use Rattle.am_restart.specs.Fates.{returns}
use Rattle.am_restart.specs.State.{SessionState}
use Rattle.am_restart.proofs.Keys.{Point, IsClosed, IsSame, earlier_closed}
use Rattle.am_restart.proofs.MoveKinds.{Refusal}
use Rattle.am_restart.proofs.Lists.{Among, count_more}
use Rattle.am_restart.proofs.Orders.{UpTo, Before, turned, same_then, before_same, before_key, not_before, place}
use Rattle.am_restart.proofs.LawParts.{Emitted, SenderPart, Dead, DeadPart, ReceiverPart, Refuses, answer_numbers, key, waiting}
use Rattle.am_restart.proofs.Points.{Stays, numbers}
use Rattle.am_restart.proofs.SendingLaws.{IsSent, not_hello, parcel_cases}
use Rattle.am_model.proofs.Received.{bit}

-- a parcel that is taken now: it was emitted and wasn't closed
pub record IsNew (out : List SenderPacket) (o : Point) (d : SessionParcel) : Type 0 where
  pub emitted : Emitted out d
  pub open' : IsClosed o (numbers d) → ⊥

dead_stays : (out : List SenderPacket) (o later : Point) (taken more : List SessionParcel) (p : SessionParcel) → Stays o later →
    ((d : SessionParcel) → Among d more → Among d taken ⊎ IsNew out o d) → Dead o taken p →
    ((q : SessionParcel) → Emitted out q → IsSame (numbers q) (numbers p) → Dead o taken q) → Dead later more p
dead_stays out o later taken more p stays grows dead family =
    record { closed = stays.closed (numbers p) dead.closed; untaken = λ d there same. over d same (grows d there) }
  where
    over : (d : SessionParcel) → IsSame (numbers d) (numbers p) → Among d taken ⊎ IsNew out o d → ⊥
    over d same (inl there) = dead.untaken d there same
    over d same (inr new) = new.open' (family d new.emitted same).closed

-- the receiver goes on, and takes what wasn't closed
pub dead_receives : (σ : Sender) (life offered : ℕ) (out : List SenderPacket) (queue : List ℕ) (past next : List SessionEntry) (o later : Point)
    (taken more : List SessionParcel) → SenderPart σ life offered out → DeadPart σ out queue past o taken → Stays o later →
    ((d : SessionParcel) → Among d more → Among d taken ⊎ IsNew out o d) → ((m : ℕ) → count_by (returns m) next ≡ count_by (returns m) past) →
    DeadPart σ out queue next later more
dead_receives σ life offered out queue past next o later taken more sender dead stays grows same_returns =
    record {
      later = λ p q e g same before.
          dead_stays out o later taken more p stays grows (dead.later p q e g same before)
          (λ r there alike. dead.later r q there g (sender.one r p there e alike ∙ same) (before_same (numbers q) (numbers p) (numbers r) before alike));
      bound = λ p b e is same before.
          dead_stays out o later taken more p stays grows (dead.bound p b e is same before)
          (λ r there alike. dead.bound r b there is (sender.one r p there e alike ∙ same) (before_same (key σ) (numbers p) (numbers r) before alike));
      queued = λ p e one.
          dead_stays out o later taken more p stays grows (dead.queued p e one)
          (λ r there alike. dead.queued r there (subst (λ (m : ℕ). 1 ≤ waiting m queue) (sym (sender.one r p there e alike)) one));
      returned = λ p e one.
          let old : 1 ≤ count_by (returns p.message) past = subst (λ (n : ℕ). 1 ≤ n) (same_returns p.message) one in
          dead_stays out o later taken more p stays grows (dead.returned p e old)
          (λ r there alike. dead.returned r there (subst (λ (m : ℕ). 1 ≤ count_by (returns m) past) (sym (sender.one r p there e alike)) old));
    }

-- a parcel of a message that is refused now is dead
pub refused_dead : (s : SessionState) (past : List SessionEntry) (o : Point) (taken : List SessionParcel) (b : Bound) →
    SenderPart s.sender s.receiver.incarnation s.traffic.offered s.traffic.from_sender → DeadPart s.sender s.traffic.from_sender s.traffic.queue past o taken →
    ReceiverPart s.traffic.from_sender s.traffic.from_receiver o taken → s.sender.end.bound ≡ Some b → Refusal s b → (p : SessionParcel) →
    Emitted s.traffic.from_sender p → p.message ≡ number_of b → Dead o taken p
refused_dead s past o taken b sender dead receiver is refusal p e same =
    by_place (place (key s.sender) (numbers p) (sender.fits p e).upto)
  where
    a : SessionAnswer
    a = refusal.answer

    at_key : IsSame (answer_numbers refusal.answer) (key s.sender)
    at_key = record { receiver = refusal.receiver'; sender' = refusal.sender'; seq = refusal.seq' }

    truth : Refuses o taken refusal.answer
    truth = receiver.answers refusal.answer refusal.given refusal.light

    attempt_le : (q : SessionParcel) → Emitted s.traffic.from_sender q → IsSame (numbers q) (key s.sender) → q.attempt ≤ refusal.answer.attempt
    attempt_le q g here =
        let at : IfSome (Some b) (λ b. (q.message ≡ number_of b) × (q.attempt ≤ b.attempt)) =
        subst (λ (o : Option Bound). IfSome o (λ b. (q.message ≡ number_of b) × (q.attempt ≤ b.attempt))) is ((sender.fits q g).bound here) in
        omega (arith, at.1, refusal.attempt')

    by_place : Before (key s.sender) (numbers p) ⊎ IsSame (numbers p) (key s.sender) → Dead o taken p
    by_place (inl before) = dead.bound p b e is same before
    by_place (inr here) =
        let alike : IsSame (answer_numbers refusal.answer) (numbers p) =
        same_then (answer_numbers refusal.answer) (key s.sender) (numbers p) at_key (turned (numbers p) (key s.sender) here) in
        record {
          closed = earlier_closed o (answer_numbers refusal.answer) (numbers p) truth.closed alike (attempt_le p e here);
          untaken = λ d there also.
              let d_at : IsSame (numbers d) (answer_numbers refusal.answer) =
              same_then (numbers d) (numbers p) (answer_numbers refusal.answer) also (turned (answer_numbers refusal.answer) (numbers p) alike) in
              let lt : refusal.answer.attempt < d.attempt = truth.untaken d there d_at in
              let le : d.attempt ≤ refusal.answer.attempt = attempt_le d (receiver.emitted d there)
              (same_then (numbers d) (answer_numbers refusal.answer) (key s.sender) d_at at_key) in
              omega (arith, lt, le);
        }

-- nothing is bound any more, and no message is returned or queued
pub dead_on : (σ τ : Sender) (out : List SenderPacket) (queue : List ℕ) (past next : List SessionEntry) (o : Point) (taken : List SessionParcel) →
    DeadPart σ out queue past o taken → τ.end.bound ≡ None → ((m : ℕ) → count_by (returns m) next ≡ count_by (returns m) past) →
    DeadPart τ out queue next o taken
dead_on σ τ out queue past next o taken dead idle same_returns =
    record {
      later = dead.later;
      bound = λ p b e is same before. absurd (let no_bound : None ≡ Some b = sym idle ∙ is in cc);
      queued = dead.queued;
      returned = λ p e one. dead.returned p e (subst (λ (n : ℕ). 1 ≤ n) (same_returns p.message) one);
    }

-- whether a count that grew by a test was positive, or the test holds
pub grew : (m n count : ℕ) → 1 ≤ count + bit (m == n) → (1 ≤ count) ⊎ (m ≡ n)
grew m n count h = over (eqb_tells m n)
  where
    over : (((m == n) ≡ true) × (m ≡ n)) ⊎ (((m == n) ≡ false) × (m ≡ n → ⊥)) → (1 ≤ count) ⊎ (m ≡ n)
    over (inl same) = inr same.1
    over (inr other) = inl (let none : ◌≡◌ {A = ℕ} (bit (m == n)) 0 = ap bit other.0 in omega (arith, h, none))

-- what was bound is returned
pub dead_returns : (σ τ : Sender) (out : List SenderPacket) (queue : List ℕ) (past next : List SessionEntry) (o : Point) (taken : List SessionParcel) (n : ℕ) →
    DeadPart σ out queue past o taken → τ.end.bound ≡ None → ((m : ℕ) → count_by (returns m) next ≡ count_by (returns m) past + bit (m == n)) →
    ((p : SessionParcel) → Emitted out p → p.message ≡ n → Dead o taken p) → DeadPart τ out queue next o taken
dead_returns σ τ out queue past next o taken n dead idle more all =
    record {
      later = dead.later;
      bound = λ p b e is same before. absurd (let no_bound : None ≡ Some b = sym idle ∙ is in cc);
      queued = dead.queued;
      returned = λ p e one. over p e (grew p.message n (count_by (returns p.message) past) (subst (λ (k : ℕ). 1 ≤ k) (more p.message) one));
    }
  where
    over : (p : SessionParcel) → Emitted out p → (1 ≤ count_by (returns p.message) past) ⊎ (p.message ≡ n) → Dead o taken p
    over p e (inl one) = dead.returned p e one
    over p e (inr same) = all p e same

-- what was bound is queued again
pub dead_requeues : (σ τ : Sender) (out : List SenderPacket) (queue : List ℕ) (past next : List SessionEntry) (o : Point) (taken : List SessionParcel) (n : ℕ) →
    DeadPart σ out queue past o taken → τ.end.bound ≡ None → ((m : ℕ) → count_by (returns m) next ≡ count_by (returns m) past) →
    ((p : SessionParcel) → Emitted out p → p.message ≡ n → Dead o taken p) → DeadPart τ out (queue ++ n ∷ []) next o taken
dead_requeues σ τ out queue past next o taken n dead idle same_returns all =
    record {
      later = dead.later;
      bound = λ p b e is same before. absurd (let no_bound : None ≡ Some b = sym idle ∙ is in cc);
      queued = λ p e one. over p e (grew p.message n (waiting p.message queue) (subst (λ (k : ℕ). 1 ≤ k) (count_more (λ (k : ℕ). p.message == k) queue n) one));
      returned = λ p e one. dead.returned p e (subst (λ (k : ℕ). 1 ≤ k) (same_returns p.message) one);
    }
  where
    over : (p : SessionParcel) → Emitted out p → (1 ≤ waiting p.message queue) ⊎ (p.message ≡ n) → Dead o taken p
    over p e (inl one) = dead.queued p e one
    over p e (inr same) = all p e same

-- a message that no parcel carries is queued
pub dead_offers : (σ : Sender) (life offered : ℕ) (out : List SenderPacket) (queue : List ℕ) (past next : List SessionEntry) (o : Point)
    (taken : List SessionParcel) → SenderPart σ life offered out → DeadPart σ out queue past o taken →
    ((m : ℕ) → count_by (returns m) next ≡ count_by (returns m) past) → DeadPart σ out (queue ++ (offered + 1) ∷ []) next o taken
dead_offers σ life offered out queue past next o taken sender dead same_returns =
    record {
      later = dead.later;
      bound = dead.bound;
      queued = λ p e one. over p e (grew p.message (offered + 1) (waiting p.message queue)
          (subst (λ (k : ℕ). 1 ≤ k) (count_more (λ (k : ℕ). p.message == k) queue (offered + 1)) one));
      returned = λ p e one. dead.returned p e (subst (λ (k : ℕ). 1 ≤ k) (same_returns p.message) one);
    }
  where
    over : (p : SessionParcel) → Emitted out p → (1 ≤ waiting p.message queue) ⊎ (p.message ≡ offered + 1) → Dead o taken p
    over p e (inl one) = dead.queued p e one
    over p e (inr same) = absurd (omega (arith, (sender.fits p e).offered', same))

pub dead_hello : (σ : Sender) (n : ℕ) (out : List SenderPacket) (queue : List ℕ) (past next : List SessionEntry) (o : Point) (taken : List SessionParcel) →
    DeadPart σ out queue past o taken → ((m : ℕ) → count_by (returns m) next ≡ count_by (returns m) past) →
    DeadPart σ (out ++ FromSender.Hello n ∷ []) queue next o taken
dead_hello σ n out queue past next o taken dead same_returns =
    record {
      later = λ p q e g. dead.later p q (not_hello out n p e) (not_hello out n q g);
      bound = λ p b e. dead.bound p b (not_hello out n p e);
      queued = λ p e. dead.queued p (not_hello out n p e);
      returned = λ p e one. dead.returned p (not_hello out n p e) (subst (λ (k : ℕ). 1 ≤ k) (same_returns p.message) one);
    }

-- a parcel goes out, of a message of which the parcels of earlier bindings are dead, and that neither waits nor is returned
pub dead_sends : (τ : Sender) (b : Bound) (life offered : ℕ) (out : List SenderPacket) (f : SessionParcel) (queue rest : List ℕ) (past next : List SessionEntry)
    (o : Point) (taken : List SessionParcel) → ((p q : SessionParcel) → Emitted out p → Emitted out q → p.message ≡ q.message → Before (numbers q) (numbers p) →
    Dead o taken p) → ((p : SessionParcel) → Emitted out p → 1 ≤ waiting p.message rest → Dead o taken p) →
    ((p : SessionParcel) → Emitted out p → 1 ≤ count_by (returns p.message) past → Dead o taken p) → SenderPart τ life offered out → IsSent τ b f →
    ((p : SessionParcel) → Emitted out p → p.message ≡ number_of b → Before (key τ) (numbers p) → Dead o taken p) → waiting (number_of b) rest ≡ 0 →
    count_by (returns (number_of b)) past ≡ 0 → ((m : ℕ) → count_by (returns m) next ≡ count_by (returns m) past) →
    DeadPart τ (out ++ FromSender.Parcel f ∷ []) rest next o taken
dead_sends τ b life offered out f queue rest past next o taken dead_later dead_queued dead_returned sender is earlier waits returned same_returns =
    record {
      later = λ p q e g same before. over_later p q (parcel_cases out f p e) (parcel_cases out f q g) same before;
      bound = λ p c e at same before. over_bound p c (parcel_cases out f p e) at same before;
      queued = λ p e one. over_queued p (parcel_cases out f p e) one;
      returned = λ p e one. over_returned p (parcel_cases out f p e) (subst (λ (k : ℕ). 1 ≤ k) (same_returns p.message) one);
    }
  where
    last_up : UpTo (key τ) (numbers f)
    last_up = record {
      sender' = omega (arith, is.numbers'.sender');
      receiver' = λ e. omega (arith, is.numbers'.receiver);
      seq' = λ e g. omega (arith, is.numbers'.seq);
    }

    up : (q : SessionParcel) → Emitted out q ⊎ (q ≡ f) → UpTo (key τ) (numbers q)
    up q (inl g) = (sender.fits q g).upto
    up q (inr g) = subst (λ (r : SessionParcel). UpTo (key τ) (numbers r)) (sym g) last_up

    over_later : (p q : SessionParcel) → Emitted out p ⊎ (p ≡ f) → Emitted out q ⊎ (q ≡ f) → p.message ≡ q.message → Before (numbers q) (numbers p) →
        Dead o taken p
    over_later p q (inl e) (inl g) same before = dead_later p q e g same before
    over_later p q (inl e) (inr g) same before =
        let at : IsSame (numbers q) (key τ) = subst (λ (r : SessionParcel). IsSame (numbers r) (key τ)) (sym g) is.numbers' in
        earlier p e (same ∙ ap (λ (r : SessionParcel). r.message) g ∙ is.message') (before_key (numbers q) (key τ) (numbers p) before at)
    over_later p q (inr e) g same before =
        let at : IsSame (numbers p) (key τ) = subst (λ (r : SessionParcel). IsSame (numbers r) (key τ)) (sym e) is.numbers' in
        absurd (not_before (key τ) (numbers q) (numbers p) (up q g) at before)

    over_bound : (p : SessionParcel) (c : Bound) → Emitted out p ⊎ (p ≡ f) → τ.end.bound ≡ Some c → p.message ≡ number_of c → Before (key τ) (numbers p) →
        Dead o taken p
    over_bound p c (inl e) at same before =
        let also : c ≡ b = let both : Some c ≡ Some b = sym at ∙ is.bound in cc in
        earlier p e (same ∙ ap number_of also) before
    over_bound p c (inr e) at same before =
        let here : IsSame (numbers p) (key τ) = subst (λ (r : SessionParcel). IsSame (numbers r) (key τ)) (sym e) is.numbers' in
        absurd (omega (arith, before.seq' here.sender' here.receiver, here.seq))

    number : (p : SessionParcel) → p ≡ f → p.message ≡ number_of b
    number p e = ap (λ (r : SessionParcel). r.message) e ∙ is.message'

    over_queued : (p : SessionParcel) → Emitted out p ⊎ (p ≡ f) → 1 ≤ waiting p.message rest → Dead o taken p
    over_queued p (inl e) one = dead_queued p e one
    over_queued p (inr e) one = absurd (let some : 1 ≤ waiting (number_of b) rest = subst (λ (m : ℕ). 1 ≤ waiting m rest) (number p e) one in
        omega (arith, some, waits))

    over_returned : (p : SessionParcel) → Emitted out p ⊎ (p ≡ f) → 1 ≤ count_by (returns p.message) past → Dead o taken p
    over_returned p (inl e) one = dead_returned p e one
    over_returned p (inr e) one = absurd (let some : 1 ≤ count_by (returns (number_of b)) past =
        subst (λ (m : ℕ). 1 ≤ count_by (returns m) past) (number p e) one in omega (arith, some, returned))
