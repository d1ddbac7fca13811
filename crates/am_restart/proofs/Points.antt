-- The receiver of a session in numbers, and what its arrivals mean.
use Rattle.std.specs.Prelude.{nat_lt}
use Rattle.std.proofs.Common.{◌≡◌, ℕ, ◌≤◌, ◌<◌, Bool, true, false, ◌==◌, refl, sym, ap, ◌∙◌, subst, arith, if◌then◌else◌, ◌≢◌, inl, inr}
use Rattle.std.proofs.lemmas.Bool.{ltb-true, ltb-false, eqb-true}
use Rattle.am_names.specs.declared.Verdict.{Verdict}
use Rattle.am_names.specs.declared.Verdict.TheVariants as Verdicts
use Rattle.am_model.specs.Channels.{Mark, Stale, Again, Fresh, arrival, arrival_at}
use Rattle.am_model.proofs.Marks.{IsPast, fresh_means}
use Rattle.am_restart.specs.declared.ends.Receiver.{Receiver}
use Rattle.am_restart.specs.declared.packets.SessionParcel.{SessionParcel}
use Rattle.am_restart.specs.Ends as Ends
use Rattle.am_restart.specs.Ends.{new_receiver}
use Rattle.am_restart.proofs.Keys.{Point, Numbers, IsClosed, IsSettled, IsFresh, kept, restarted, closed_met, settled_met, closed_kept, settled_kept}
use Rattle.am_restart.proofs.Keys.{closed_restarted, settled_restarted}

abbrev pub weight : Verdict → ℕ
weight Verdicts.Accepted = 1
weight (Verdicts.Refused cause) = 0

abbrev pub point : Receiver → Point
point r = record { incarnation = r.incarnation; newest = r.newest; seq = r.end.seq; attempt = r.end.attempt; weight = weight r.end.verdict }

abbrev pub numbers : SessionParcel → Numbers
numbers p = record { receiver = p.receiver; sender = p.sender; seq = p.seq; attempt = p.attempt }

-- what is closed or settled at one point is so at a later one
pub record Stays (o later : Point) : Type 0 where
  pub life : o.incarnation ≤ later.incarnation
  pub closed : (p : Numbers) → IsClosed o p → IsClosed later p
  pub settled : (p : Numbers) → IsSettled o p → IsSettled later p

pub stays_same : (o : Point) → Stays o o
stays_same o = record { life = omega arith; closed = λ p h. h; settled = λ p h. h }

pub stays_then : (a b c : Point) → Stays a b → Stays b c → Stays a c
stays_then a b c h k = record {
  life = omega (arith, h.life, k.life);
  closed = λ p is. k.closed p (h.closed p is);
  settled = λ p is. k.settled p (h.settled p is);
}

pub stays_restarted : (o : Point) → Stays o (restarted o)
stays_restarted o = record { life = omega arith; closed = λ p is. closed_restarted o p is.life; settled = λ p is. settled_restarted o p is.life }

pub stays_kept : (o : Point) (f : Numbers) (w : ℕ) → IsFresh o f → Stays o (kept o f w)
stays_kept o f w is = record { life = omega arith; closed = λ p c. closed_kept o p f w c is; settled = λ p c. settled_kept o p f w c is }

-- a receiver that has met a sender
pub record HasMet (r : Receiver) (sender : ℕ) : Type 0 where
  pub stays : Stays (point r) (point (Ends.met sender r))
  pub incarnation : (Ends.met sender r).incarnation ≡ r.incarnation
  pub newest : r.newest ≤ sender → (Ends.met sender r).newest ≡ sender

pub has_met : (r : Receiver) (sender : ℕ) → HasMet r sender
has_met r sender = by_test (nat_lt r.newest sender) refl
  where
    by_test : (b : Bool) → nat_lt r.newest sender ≡ b → HasMet r sender
    by_test true lt =
        let h : r.newest < sender = ltb-true r.newest sender lt in
        let is : Ends.met sender r ≡ new_receiver r.incarnation sender = ap (λ (b : Bool). if b then new_receiver r.incarnation sender else r) lt in
        record {
          stays = subst (λ (q : Receiver). Stays (point r) (point q)) (sym is) (record {
            life = omega arith;
            closed = λ p c. closed_met (point r) p sender c h;
            settled = λ p c. settled_met (point r) p sender c h;
          });
          incarnation = ap (λ (q : Receiver). q.incarnation) is;
          newest = λ le. ap (λ (q : Receiver). q.newest) is;
        }
    by_test false lt =
        let h : sender ≤ r.newest = ltb-false r.newest sender lt in
        let is : Ends.met sender r ≡ r = ap (λ (b : Bool). if b then new_receiver r.incarnation sender else r) lt in
        record {
          stays = subst (λ (q : Receiver). Stays (point r) (point q)) (sym is) (stays_same (point r));
          incarnation = ap (λ (q : Receiver). q.incarnation) is;
          newest = λ le. let e : (Ends.met sender r).newest ≡ r.newest = ap (λ (q : Receiver). q.newest) is in omega (arith, h, le, e);
        }

light : (v : Verdict) → v ≢ Verdicts.Accepted → weight v ≡ 0
light Verdicts.Accepted other = absurd (other refl)
light (Verdicts.Refused cause) other = refl

-- what a fresh parcel is, against the mark, in numbers
pub record IsPastInNumbers (m : Mark) (seq attempt : ℕ) : Type 0 where
  pub later : m.seq ≤ seq
  pub again : seq ≡ m.seq → (weight m.verdict ≡ 0) × (m.attempt < attempt)

past_in_numbers : (m : Mark) (seq attempt : ℕ) → IsPast m seq attempt → IsPastInNumbers m seq attempt
past_in_numbers m seq attempt (inl above) = record { later = omega (arith, above); again = λ same. absurd (omega (arith, above, same)) }
past_in_numbers m seq attempt (inr at) = record { later = omega (arith, at.0); again = λ same. (light m.verdict at.2, at.1) }

-- what a parcel that is answered again is
pub record IsAt (m : Mark) (v : Verdict) (seq attempt : ℕ) : Type 0 where
  pub verdict : v ≡ m.verdict
  pub seq' : seq ≡ m.seq
  pub attempt' : weight v ≡ 0 → attempt ≡ m.attempt

again_at : (m : Mark) (seq attempt : ℕ) (v w : Verdict) → m.verdict ≡ v → arrival_at m v seq attempt ≡ Again w → IsAt m w seq attempt
again_at m seq attempt Verdicts.Accepted w is e = by_tests (nat_lt seq m.seq) (seq == m.seq) refl e
  where
    by_tests : (a b : Bool) → (seq == m.seq) ≡ b → (if a then Stale else (if b then Again Verdicts.Accepted else Fresh)) ≡ Again w → IsAt m w seq attempt
    by_tests true b eq f = absurd (cc)
    by_tests false true eq f =
        let v : w ≡ Verdicts.Accepted = cc in
        record {
          verdict = v ∙ sym is;
          seq' = eqb-true seq m.seq eq;
          attempt' = λ light. absurd (let one : ◌≡◌ {A = ℕ} (weight w) 1 = ap weight v in omega (arith, one, light));
        }
    by_tests false false eq f = absurd (cc)
again_at m seq attempt (Verdicts.Refused cause) w is e = by_tests (nat_lt seq m.seq) (seq == m.seq) (nat_lt attempt m.attempt) (attempt ==
    m.attempt) refl refl e
  where
    by_tests : (a b c d : Bool) → (seq == m.seq) ≡ b → (attempt == m.attempt) ≡ d →
        (if a then Stale else (if b then (if c then Stale else (if d then Again (Verdicts.Refused cause) else Fresh)) else Fresh)) ≡ Again w →
        IsAt m w seq attempt
    by_tests true b c d eq eqa f = absurd (cc)
    by_tests false true true d eq eqa f = absurd (cc)
    by_tests false true false true eq eqa f =
        let v : w ≡ Verdicts.Refused cause = cc in
        record { verdict = v ∙ sym is; seq' = eqb-true seq m.seq eq; attempt' = λ light. eqb-true attempt m.attempt eqa }
    by_tests false true false false eq eqa f = absurd (cc)
    by_tests false false c d eq eqa f = absurd (cc)

-- a parcel to this receiver, of a sender that isn't older than the newest it met, is fresh in numbers
pub fresh_of : (r : Receiver) (p : SessionParcel) → p.receiver ≡ r.incarnation → r.newest ≤ p.sender →
    arrival (Ends.met p.sender r).end p.seq p.attempt ≡ Fresh → IsFresh (point (Ends.met p.sender r)) (numbers p)
fresh_of r p own le e =
    let m : HasMet r p.sender = has_met r p.sender in
    let past = past_in_numbers (Ends.met p.sender r).end p.seq p.attempt (fresh_means (Ends.met p.sender r).end p.seq p.attempt e) in
    record { own = own ∙ sym m.incarnation; met = sym (m.newest le); later = past.later; again = past.again }

pub again_of : (r : Receiver) (p : SessionParcel) (v : Verdict) → arrival (Ends.met p.sender r).end p.seq p.attempt ≡ Again v →
    IsAt (Ends.met p.sender r).end v p.seq p.attempt
again_of r p v e = again_at (Ends.met p.sender r).end p.seq p.attempt (Ends.met p.sender r).end.verdict v refl e
