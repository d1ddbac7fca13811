-- The order of bindings: by the sender's incarnation, then the receiver's, then the sequence.
use Rattle.std.proofs.Common.{◌≡◌, ◌≢◌, ◌≤◌, ◌<◌, true, false, ◌==◌, ◌⊎◌, inl, inr, sym, ◌∙◌, arith}
use Rattle.std.proofs.lemmas.Bool.{cases_lt}
use Rattle.std.proofs.lemmas.Bool.Decides.{eqb_tells}
use Rattle.am_restart.proofs.Keys.{Numbers, IsSame}

-- p is no later than k
pub record UpTo (k p : Numbers) : Type 0 where
  pub sender' : p.sender ≤ k.sender
  pub receiver' : p.sender ≡ k.sender → p.receiver ≤ k.receiver
  pub seq' : p.sender ≡ k.sender → p.receiver ≡ k.receiver → p.seq ≤ k.seq

-- p is earlier than k
pub record Before (k p : Numbers) : Type 0 where
  pub sender' : p.sender ≤ k.sender
  pub receiver' : p.sender ≡ k.sender → p.receiver ≤ k.receiver
  pub seq' : p.sender ≡ k.sender → p.receiver ≡ k.receiver → p.seq < k.seq

pub turned : (p q : Numbers) → IsSame p q → IsSame q p
turned p q h = record { receiver = sym h.receiver; sender' = sym h.sender'; seq = sym h.seq }

pub same_then : (p q r : Numbers) → IsSame p q → IsSame q r → IsSame p r
same_then p q r h k = record { receiver = h.receiver ∙ k.receiver; sender' = h.sender' ∙ k.sender'; seq = h.seq ∙ k.seq }

pub before_same : (k p q : Numbers) → Before k p → IsSame q p → Before k q
before_same k p q h same =
    record {
      sender' = omega (arith, h.sender', same.sender');
      receiver' = λ e. omega (arith, h.receiver' (sym same.sender' ∙ e), same.receiver);
      seq' = λ e f. omega (arith, h.seq' (sym same.sender' ∙ e) (sym same.receiver ∙ f), same.seq);
    }

pub before_key : (k l p : Numbers) → Before k p → IsSame k l → Before l p
before_key k l p h same =
    record {
      sender' = omega (arith, h.sender', same.sender');
      receiver' = λ e. omega (arith, h.receiver' (e ∙ sym same.sender'), same.receiver);
      seq' = λ e f. omega (arith, h.seq' (e ∙ sym same.sender') (f ∙ sym same.receiver), same.seq);
    }

-- what is no later isn't later
pub not_before : (k q f : Numbers) → UpTo k q → IsSame f k → Before q f → ⊥
not_before k q f up same h =
    let s : q.sender ≡ k.sender = omega (arith, up.sender', h.sender', same.sender') in
    let r : q.receiver ≡ k.receiver = omega (arith, up.receiver' s, h.receiver' (same.sender' ∙ sym s), same.receiver) in
    omega (arith, up.seq' s r, h.seq' (same.sender' ∙ sym s) (same.receiver ∙ sym r), same.seq)

-- what is no later is earlier or the same
pub place : (k p : Numbers) → UpTo k p → Before k p ⊎ IsSame p k
place k p up = by_tests (eqb_tells p.sender k.sender) (eqb_tells p.receiver k.receiver) (eqb_tells p.seq k.seq)
  where
    by_tests : ((((p.sender == k.sender) ≡ true) × (p.sender ≡ k.sender)) ⊎ (((p.sender == k.sender) ≡ false) × (p.sender ≢ k.sender))) →
        ((((p.receiver == k.receiver) ≡ true) × (p.receiver ≡ k.receiver)) ⊎ (((p.receiver == k.receiver) ≡ false) × (p.receiver ≢ k.receiver))) →
        ((((p.seq == k.seq) ≡ true) × (p.seq ≡ k.seq)) ⊎ (((p.seq == k.seq) ≡ false) × (p.seq ≢ k.seq))) → Before k p ⊎ IsSame p k
    by_tests (inr s) r q = inl (record { sender' = up.sender'; receiver' = up.receiver'; seq' = λ e f. absurd (s.1 e) })
    by_tests (inl s) (inr r) q = inl (record { sender' = up.sender'; receiver' = up.receiver'; seq' = λ e f. absurd (r.1 f) })
    by_tests (inl s) (inl r) (inr q) = inl (record {
      sender' = up.sender';
      receiver' = up.receiver';
      seq' = λ e f. let le : p.seq ≤ k.seq = up.seq' e f in let ne : p.seq ≢ k.seq = q.1 in omega (arith, le, ne);
    })
    by_tests (inl s) (inl r) (inl q) = inr (record { receiver = r.1; sender' = s.1; seq = q.1 })

-- of two bindings one is earlier, or they are the same
pub ordered : (p q : Numbers) → UpTo q p ⊎ Before p q
ordered p q = by_sender (cases_lt p.sender q.sender) (cases_lt q.sender p.sender) (cases_lt p.receiver q.receiver) (cases_lt q.receiver p.receiver)
    (cases_lt q.seq p.seq)
  where
    by_sender : (p.sender < q.sender) ⊎ (q.sender ≤ p.sender) → (q.sender < p.sender) ⊎ (p.sender ≤ q.sender) →
        (p.receiver < q.receiver) ⊎ (q.receiver ≤ p.receiver) → (q.receiver < p.receiver) ⊎ (p.receiver ≤ q.receiver) → (q.seq < p.seq) ⊎ (p.seq ≤ q.seq) →
        UpTo q p ⊎ Before p q
    by_sender (inl lt) b c d e = inl (record { sender' = omega arith; receiver' = λ same. absurd (omega arith); seq' = λ same r. absurd (omega arith) })
    by_sender (inr ge) (inl gt) c d e = inr (record { sender' = omega arith; receiver' = λ same. absurd (omega arith); seq' = λ same r. absurd (omega arith) })
    by_sender (inr ge) (inr le) (inl lt) d e = inl (record { sender' = omega arith; receiver' = λ same. omega arith; seq' = λ same r. absurd (omega arith) })
    by_sender (inr ge) (inr le) (inr rge) (inl gt) e = inr (record {
      sender' = omega arith;
      receiver' = λ same. omega arith;
      seq' = λ same r. absurd (omega arith);
    })
    by_sender (inr ge) (inr le) (inr rge) (inr rle) (inl lt) = inr (record {
      sender' = omega arith;
      receiver' = λ same. omega arith;
      seq' = λ same r. omega arith;
    })
    by_sender (inr ge) (inr le) (inr rge) (inr rle) (inr sle) = inl (record {
      sender' = omega arith;
      receiver' = λ same. omega arith;
      seq' = λ same r. omega arith;
    })
