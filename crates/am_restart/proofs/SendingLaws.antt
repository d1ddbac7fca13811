-- What the sender's moves keep.
use Rattle.std.specs.Prelude.{IfSome}
use Rattle.std.proofs.Common.{◌≡◌, ℕ, ◌+◌, ◌≤◌, ◌⊎◌, inl, inr, Option, Some, None, List, [], ◌∷◌, ◌++◌, sym, ap, ◌∙◌, subst, arith}
use Rattle.am_channel.specs.declared.sending.Bound.{Bound}
use Rattle.am_restart.specs.declared.ends.Sender.{Sender}
use Rattle.am_restart.specs.declared.packets.SessionParcel.{SessionParcel}
use Rattle.am_restart.specs.declared.packets.SenderPacket.{SenderPacket}
use Rattle.am_restart.specs.declared.packets.SenderPacket.TheVariants as FromSender
use Rattle.am_restart.specs.Ends.{number_of}
use Rattle.am_restart.proofs.Keys.{Numbers, IsSame}
use Rattle.am_restart.proofs.Lists.{among_cases}
use Rattle.am_restart.proofs.Orders.{UpTo, turned, same_then}
use Rattle.am_restart.proofs.LawParts.{Emitted, Fits, SenderPart, key}
use Rattle.am_restart.proofs.Points.{numbers}

-- the sender as it was
pub sender_same : (σ : Sender) (life later offered more : ℕ) (out : List SenderPacket) → SenderPart σ life offered out → life ≤ later → offered ≤ more →
    SenderPart σ later more out
sender_same σ life later offered more out h le up =
    record {
      fits = λ p e. let f : Fits σ life offered p = h.fits p e in record {
        known = omega (arith, f.known);
        offered' = omega (arith, f.offered');
        upto = f.upto;
        bound = f.bound;
      };
      one = h.one;
      peer = omega (arith, h.peer);
    }

-- a sender that goes on, with nothing bound
pub sender_on : (σ τ : Sender) (life offered : ℕ) (out : List SenderPacket) → SenderPart σ life offered out → τ.end.bound ≡ None → τ.peer ≤ life →
    ((p : Numbers) → UpTo (key σ) p → UpTo (key τ) p) → SenderPart τ life offered out
sender_on σ τ life offered out h idle peer on =
    record {
      fits = λ p e. let f : Fits σ life offered p = h.fits p e in record {
        known = f.known;
        offered' = f.offered';
        upto = on (numbers p) f.upto;
        bound = λ same. subst (λ (b : Option Bound). IfSome b (λ b. (p.message ≡ number_of b) × (p.attempt ≤ b.attempt))) (sym idle) tt;
      };
      one = h.one;
      peer = peer;
    }

-- a hello is no parcel
pub not_hello : (out : List SenderPacket) (n : ℕ) (p : SessionParcel) → Emitted (out ++ FromSender.Hello n ∷ []) p → Emitted out p
not_hello out n p e = over (among_cases (FromSender.Parcel p) out (FromSender.Hello n) e)
  where
    over : Emitted out p ⊎ (FromSender.Parcel p ≡ FromSender.Hello n) → Emitted out p
    over (inl there) = there
    over (inr same) = absurd (cc)

-- an emitted parcel is one of before, or the last
pub parcel_cases : (out : List SenderPacket) (f p : SessionParcel) → Emitted (out ++ FromSender.Parcel f ∷ []) p → Emitted out p ⊎ (p ≡ f)
parcel_cases out f p e = over (among_cases (FromSender.Parcel p) out (FromSender.Parcel f) e)
  where
    over : Emitted out p ⊎ (FromSender.Parcel p ≡ FromSender.Parcel f) → Emitted out p ⊎ (p ≡ f)
    over (inl there) = inl there
    over (inr same) = inr (cc)

pub sender_hello : (σ : Sender) (life offered n : ℕ) (out : List SenderPacket) → SenderPart σ life offered out →
    SenderPart σ life offered (out ++ FromSender.Hello n ∷ [])
sender_hello σ life offered n out h =
    record { fits = λ p e. h.fits p (not_hello out n p e); one = λ p q e g. h.one p q (not_hello out n p e) (not_hello out n q g); peer = h.peer }

-- the parcel that goes out belongs to the binding that the sender is at
pub record IsSent (τ : Sender) (b : Bound) (f : SessionParcel) : Type 0 where
  pub numbers' : IsSame (numbers f) (key τ)
  pub bound : τ.end.bound ≡ Some b
  pub message' : f.message ≡ number_of b
  pub attempt' : f.attempt ≡ b.attempt

-- the sender after a parcel goes out: what was emitted before fits it, and so does the parcel
pub sender_sends : (τ : Sender) (b : Bound) (life offered : ℕ) (out : List SenderPacket) (f : SessionParcel) → SenderPart τ life offered out → IsSent τ b f →
    f.message ≤ offered → SenderPart τ life offered (out ++ FromSender.Parcel f ∷ [])
sender_sends τ b life offered out f h is le =
    record {
      fits = λ p e. by_case p (parcel_cases out f p e);
      one = λ p q e g same. by_cases p q (parcel_cases out f p e) (parcel_cases out f q g) same;
      peer = h.peer;
    }
  where
    fits_last : Fits τ life offered f
    fits_last =
        record {
          known = omega (arith, h.peer, is.numbers'.receiver);
          offered' = le;
          upto = record {
            sender' = omega (arith, is.numbers'.sender');
            receiver' = λ e. omega (arith, is.numbers'.receiver);
            seq' = λ e g. omega (arith, is.numbers'.seq);
          };
          bound = λ same. subst (λ (o : Option Bound). IfSome o (λ b. (f.message ≡ number_of b) × (f.attempt ≤ b.attempt))) (sym is.bound) (
            is.message',
            omega (arith, is.attempt'),
          );
        }

    by_case : (p : SessionParcel) → Emitted out p ⊎ (p ≡ f) → Fits τ life offered p
    by_case p (inl e) = h.fits p e
    by_case p (inr e) = subst (λ (q : SessionParcel). Fits τ life offered q) (sym e) fits_last

    message_at : (p : SessionParcel) → Emitted out p → IsSame (numbers p) (key τ) → p.message ≡ number_of b
    message_at p e same =
        let at : IfSome (Some b) (λ b. (p.message ≡ number_of b) × (p.attempt ≤ b.attempt)) =
        subst (λ (o : Option Bound). IfSome o (λ b. (p.message ≡ number_of b) × (p.attempt ≤ b.attempt))) is.bound ((h.fits p e).bound same) in
        at.0

    by_cases : (p q : SessionParcel) → Emitted out p ⊎ (p ≡ f) → Emitted out q ⊎ (q ≡ f) → IsSame (numbers p) (numbers q) → p.message ≡ q.message
    by_cases p q (inl e) (inl g) same = h.one p q e g same
    by_cases p q (inl e) (inr g) same =
        let at : IsSame (numbers p) (numbers f) = subst (λ (r : SessionParcel). IsSame (numbers p) (numbers r)) g same in
        message_at p e (same_then (numbers p) (numbers f) (key τ) at is.numbers') ∙ sym is.message' ∙ sym (ap (λ (r : SessionParcel). r.message) g)
    by_cases p q (inr e) (inl g) same =
        let at : IsSame (numbers q) (numbers f) = subst (λ (r : SessionParcel). IsSame (numbers q) (numbers r)) e (turned (numbers p) (numbers q) same) in
        ap (λ (r : SessionParcel). r.message) e ∙ is.message' ∙ sym (message_at q g (same_then (numbers q) (numbers f) (key τ) at is.numbers'))
    by_cases p q (inr e) (inr g) same = ap (λ (r : SessionParcel). r.message) (e ∙ sym g)

-- the sender with the next message bound, before its parcel goes out
pub sender_binds : (σ τ : Sender) (life offered : ℕ) (out : List SenderPacket) → SenderPart σ life offered out → τ.incarnation ≡ σ.incarnation →
    τ.peer ≡ σ.peer → τ.end.seq ≡ σ.end.seq + 1 → SenderPart τ life offered out
sender_binds σ τ life offered out h own peer seq =
    record { fits = λ p e. fits_next p (h.fits p e); one = h.one; peer = omega (arith, h.peer, peer) }
  where
    fits_next : (p : SessionParcel) → Fits σ life offered p → Fits τ life offered p
    fits_next p f =
        record {
          known = f.known;
          offered' = f.offered';
          upto = record {
            sender' = omega (arith, f.upto.sender', own);
            receiver' = λ e. omega (arith, f.upto.receiver' (e ∙ own), peer);
            seq' = λ e g. omega (arith, f.upto.seq' (e ∙ own) (g ∙ peer), seq);
          };
          bound = λ same. absurd (omega (arith, f.upto.seq' (same.sender' ∙ own) (same.receiver ∙ peer), same.seq, seq));
        }

-- the sender with one more try, before its parcel goes out
pub sender_tries : (σ τ : Sender) (b c : Bound) (life offered : ℕ) (out : List SenderPacket) → SenderPart σ life offered out → σ.end.bound ≡ Some b →
    τ.end.bound ≡ Some c → number_of c ≡ number_of b → c.attempt ≡ b.attempt + 1 → τ.incarnation ≡ σ.incarnation → τ.peer ≡ σ.peer → τ.end.seq ≡ σ.end.seq →
    SenderPart τ life offered out
sender_tries σ τ b c life offered out h was is number attempt own peer seq =
    record { fits = λ p e. fits_next p (h.fits p e); one = h.one; peer = omega (arith, h.peer, peer) }
  where
    fits_next : (p : SessionParcel) → Fits σ life offered p → Fits τ life offered p
    fits_next p f =
        record {
          known = f.known;
          offered' = f.offered';
          upto = record {
            sender' = omega (arith, f.upto.sender', own);
            receiver' = λ e. omega (arith, f.upto.receiver' (e ∙ own), peer);
            seq' = λ e g. omega (arith, f.upto.seq' (e ∙ own) (g ∙ peer), seq);
          };
          bound = λ same.
              let at : IfSome (Some b) (λ b. (p.message ≡ number_of b) × (p.attempt ≤ b.attempt)) =
              subst (λ (o : Option Bound). IfSome o (λ b. (p.message ≡ number_of b) × (p.attempt ≤ b.attempt))) was
              (f.bound (record { receiver = same.receiver ∙ peer; sender' = same.sender' ∙ own; seq = same.seq ∙ seq })) in
              subst (λ (o : Option Bound). IfSome o (λ b. (p.message ≡ number_of b) × (p.attempt ≤ b.attempt))) (sym is) (
                at.0
                    ∙ sym number,
                omega (arith, at.1, attempt),
              );
        }
