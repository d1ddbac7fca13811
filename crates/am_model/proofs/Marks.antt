-- What the mark of a receiving end tells of a packet: a fresh one is past it, one that is answered again is at it; and an answer makes no answer.
use Rattle.std.specs.Prelude.{nat_lt}
use Rattle.std.proofs.Common.{◌≡◌, ◌≢◌, ◌⊎◌, inl, inr, ◌==◌, ℕ, ◌+◌, ◌≤◌, ◌<◌, Bool, true, false, ◌&&◌, List, Option, Some, None, refl, sym, ◌∙◌, arith}
use Rattle.std.proofs.Common.{eqb-true, ltb-false, if◌then◌else◌}
use Rattle.std.proofs.lemmas.Bool.{eqb-false}
use Rattle.am_names.specs.Rules.{is_transient}
use Rattle.am_names.specs.declared.Message.{Message}
use Rattle.am_names.specs.declared.Cause.{Cause}
use Rattle.am_names.specs.declared.Verdict.{Verdict}
use Rattle.am_names.specs.declared.Verdict.TheVariants as Verdicts
use Rattle.am_names.specs.declared.AnswerPacket.{AnswerPacket}
use Rattle.am_office_entries.specs.declared.Received.TheVariants as Got
use Rattle.am_office_entries.specs.declared.Entry.{Entry}
use Rattle.am_office_entries.specs.Entries.{answer_by}
use Rattle.am_model.specs.Changes.{flying_of}
use Rattle.am_model.specs.Layout.{Layout}
use Rattle.am_model.specs.Channels.{Channel, Mark, sequence, attempt, Stale, Again, Fresh, arrival, arrival_at}
use Rattle.am_model.specs.History.{bounced, state_of, settle, settle_by, counts}

-- what a fresh packet is, against the mark
abbrev pub IsPast : Mark → ℕ → ℕ → Type 0
IsPast m seq attempt = (m.seq < seq) ⊎ ((seq ≡ m.seq) × (m.attempt < attempt) × (m.verdict ≢ Verdicts.Accepted))

fresh_at : (m : Mark) (seq attempt : ℕ) (v : Verdict) → m.verdict ≡ v → arrival_at m v seq attempt ≡ Fresh → IsPast m seq attempt
fresh_at m seq attempt Verdicts.Accepted is e = by_tests (nat_lt seq m.seq) (seq == m.seq) refl refl e
  where
    by_tests : (a b : Bool) → nat_lt seq m.seq ≡ a → (seq == m.seq) ≡ b → (if a then Stale else (if b then Again Verdicts.Accepted else Fresh)) ≡ Fresh →
        IsPast m seq attempt
    by_tests true b lt eq f = absurd (cc)
    by_tests false true lt eq f = absurd (cc)
    by_tests false false lt eq f = let h : m.seq ≤ seq = ltb-false seq m.seq lt in let n : seq ≡ m.seq → ⊥ = eqb-false seq m.seq eq in inl (omega (arith, h, n))
fresh_at m seq attempt (Verdicts.Refused cause) is e = by_tests (nat_lt seq m.seq) (seq == m.seq) (nat_lt attempt m.attempt) (attempt ==
    m.attempt) refl refl refl refl e
  where
    by_tests : (a b c d : Bool) → nat_lt seq m.seq ≡ a → (seq == m.seq) ≡ b → nat_lt attempt m.attempt ≡ c → (attempt == m.attempt) ≡ d →
        (if a then Stale else (if b then (if c then Stale else (if d then Again (Verdicts.Refused cause) else Fresh)) else Fresh)) ≡ Fresh →
        IsPast m seq attempt
    by_tests true b c d lt eq lta eqa f = absurd (cc)
    by_tests false true true d lt eq lta eqa f = absurd (cc)
    by_tests false true false true lt eq lta eqa f = absurd (cc)
    by_tests false true false false lt eq lta eqa f =
        let h : m.attempt ≤ attempt = ltb-false attempt m.attempt lta in
        let n : attempt ≡ m.attempt → ⊥ = eqb-false attempt m.attempt eqa in
        inr (eqb-true seq m.seq eq, omega (arith, h, n), λ accepted. let both : Verdicts.Refused cause ≡ Verdicts.Accepted = sym is ∙ accepted in cc)
    by_tests false false c d lt eq lta eqa f = let h : m.seq ≤ seq = ltb-false seq m.seq lt in let n : seq ≡ m.seq → ⊥ = eqb-false seq m.seq eq in
        inl (omega (arith, h, n))

pub fresh_means : (m : Mark) (seq attempt : ℕ) → arrival m seq attempt ≡ Fresh → IsPast m seq attempt
fresh_means m seq attempt e = fresh_at m seq attempt m.verdict refl e

pub settle_answers : (layout : Layout) (c : Channel) (past : List Entry) (a : AnswerPacket) (m : Option Message) → answer_by (settle layout c past a m) ≡ None
settle_answers layout c past a None = refl
settle_answers layout c past a (Some m) = by_test ((a.seq == sequence c past) && counts a.verdict (a.attempt == attempt c past))
  where
    by_again : (cause : Cause) (used : ℕ) (again : Bool) → answer_by (if again then Got.Requeued m.serial cause used else Got.Returned m.serial cause) ≡ None
    by_again cause used true = refl
    by_again cause used false = refl

    by_verdict : (v : Verdict) (used : ℕ) → answer_by (settle_by layout.bounces m used v) ≡ None
    by_verdict Verdicts.Accepted used = refl
    by_verdict (Verdicts.Refused cause) used = by_again cause (used + 1) (is_transient cause && nat_lt used layout.bounces)

    by_test : (t : Bool) → answer_by (if t then settle_by layout.bounces m (bounced (flying_of m.serial (state_of layout past m.serial.source).body.in_flight))
        a.verdict else Got.Nothing) ≡ None
    by_test true = by_verdict a.verdict (bounced (flying_of m.serial (state_of layout past m.serial.source).body.in_flight))
    by_test false = refl
