-- The sending end of a channel: what its calls answer, and what they leave bound.
use Rattle.std.specs.Prelude.{◌≢◌, ◌⊎◌, ℕ, ◌+◌, ◌==◌, ◌&&◌, Bool, true, false, Option, Some, None, if◌then◌else◌}
use Rattle.am_names.specs.declared.Verdict.{Verdict}
use Rattle.am_names.specs.declared.Verdict.TheVariants as Verdicts
use Rattle.am_names.specs.declared.Message.{Message}
use Rattle.am_names.specs.declared.AnswerPacket.{AnswerPacket}
use Rattle.am_model.specs.Tables.{may_try}
use Rattle.am_model.specs.History.{counts}
use Rattle.am_block.specs.declared.Slot.{Slot}
use Rattle.am_channel.specs.declared.sending.Bound.{Bound}
use Rattle.am_channel.specs.declared.sending.Settled.{Settled}
use Rattle.am_channel.specs.declared.sending.Settled.TheVariants as Settles
use Rattle.am_channel.specs.declared.sending.TimedOut.{TimedOut}
use Rattle.am_channel.specs.declared.sending.TimedOut.TheVariants as Times

-- a sending end as its callers see it: how often it was bound, and what is bound
pub record SendView : Type 0 where
  pub seq : ℕ
  pub bound : Option Bound

-- the end with a message bound under the next sequence, at its first attempt
abbrev pub bound_to : SendView → Message → Slot → SendView
bound_to s m slot = record { seq = s.seq + 1; bound = Some (record { message = m; slot = slot; attempt = 0 }) }

-- what comes of a time-out: with so many tries in all, the next one where fewer are used
abbrev pub timed_out : ℕ → ℕ → Bound → TimedOut
timed_out tries seq b =
    if may_try tries b.attempt then Times.Resend (record { seq = seq; attempt = b.attempt + 1 }) else Times.GaveUp b

-- what is bound after it
abbrev pub unanswered : Bound → TimedOut → Option Bound
unanswered b (Times.Resend sent) = Some (record b { attempt = sent.attempt })
unanswered b (Times.GaveUp gone) = None

abbrev pub settled_if : Bool → Bound → Verdict → Settled
settled_if true b verdict = Settles.Done b verdict
settled_if false b verdict = Settles.Nothing

abbrev pub settled_by : ℕ → AnswerPacket → Option Bound → Settled
settled_by seq p None = Settles.Nothing
settled_by seq p (Some b) = settled_if ((p.seq == seq) && counts p.verdict (p.attempt == b.attempt)) b p.verdict

-- what comes of an answer
abbrev pub settled : SendView → AnswerPacket → Settled
settled s p = settled_by s.seq p s.bound

-- what is bound after it
abbrev pub bound_after : Option Bound → Settled → Option Bound
bound_after bound (Settles.Done b verdict) = None
bound_after bound Settles.Nothing = bound

abbrev pub MissesBound : ℕ → AnswerPacket → Option Bound → Type 0
MissesBound seq p None = Unit {0}
MissesBound seq p (Some b) = (p.seq ≢ seq) ⊎ ((p.verdict ≢ Verdicts.Accepted) × (p.attempt ≢ b.attempt))

-- no message is bound, or the answer is to another sequence, or it refuses another attempt
abbrev pub CountsForNothing : SendView → AnswerPacket → Type 0
CountsForNothing s p = MissesBound s.seq p s.bound
