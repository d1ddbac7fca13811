-- What holds of a session at every point: where each message is, what its parcels fit, and which of them are dead.
use Rattle.std.specs.Prelude.{count_by, IfSome}
use Rattle.std.proofs.Common.{◌≡◌, ℕ, ◌+◌, ◌≤◌, ◌<◌, Bool, ◌==◌, Option, Some, None, List}
use Rattle.am_channel.specs.declared.sending.Bound.{Bound}
use Rattle.am_restart.specs.declared.ends.Sender.{Sender}
use Rattle.am_restart.specs.declared.events.SessionEntry.{SessionEntry}
use Rattle.am_restart.specs.declared.packets.SessionParcel.{SessionParcel}
use Rattle.am_restart.specs.declared.packets.SessionAnswer.{SessionAnswer}
use Rattle.am_restart.specs.declared.packets.SenderPacket.{SenderPacket}
use Rattle.am_restart.specs.declared.packets.SenderPacket.TheVariants as FromSender
use Rattle.am_restart.specs.declared.packets.ReceiverPacket.{ReceiverPacket}
use Rattle.am_restart.specs.declared.packets.ReceiverPacket.TheVariants as FromReceiver
use Rattle.am_restart.specs.Ends.{number_of}
use Rattle.am_restart.specs.Fates.{puts, returns, leaves_unknown, is_of}
use Rattle.am_restart.specs.State.{SessionState}
use Rattle.am_restart.proofs.Keys.{Point, Numbers, IsClosed, IsSettled, IsSame}
use Rattle.am_restart.proofs.MoveKinds.{offered_in, delivered_in}
use Rattle.am_restart.proofs.Lists.{Among}
use Rattle.am_restart.proofs.Orders.{UpTo, Before}
use Rattle.am_restart.proofs.Points.{point, numbers, weight}
use Rattle.am_model.proofs.Received.{bit}

abbrev pub offers : ℕ → SessionEntry → Bool
offers m x = is_of m (offered_in x.outcome)

abbrev pub delivers : ℕ → SessionEntry → Bool
delivers m x = is_of m (delivered_in x.outcome)

abbrev pub bound_bit : ℕ → Option Bound → ℕ
bound_bit m None = 0
bound_bit m (Some b) = bit (m == number_of b)

abbrev pub waiting : ℕ → List ℕ → ℕ
waiting m queue = count_by (λ (n : ℕ). m == n) queue

abbrev pub is_taken : ℕ → SessionParcel → Bool
is_taken m d = m == d.message

-- each offered message is in one place: it waits, is bound, or is returned, unknown or delivered
pub record Places (bound : Option Bound) (offered : ℕ) (queue : List ℕ) (past : List SessionEntry) : Type 0 where
  pub sum : (m : ℕ) → waiting m queue + bound_bit m bound + count_by (returns m) past + count_by (leaves_unknown m) past + count_by (delivers m) past ≡ count_by
      (offers m) past
  pub once : (m : ℕ) → count_by (offers m) past ≤ 1
  pub later : (m : ℕ) → offered < m → count_by (offers m) past ≡ 0

-- the binding that the sender is at
abbrev pub key : Sender → Numbers
key σ = record { receiver = σ.peer; sender = σ.incarnation; seq = σ.end.seq; attempt = 0 }

abbrev pub Emitted : List SenderPacket → SessionParcel → Type 0
Emitted out p = Among (FromSender.Parcel p) out

-- an emitted parcel fits what the sender knows
pub record Fits (σ : Sender) (life offered : ℕ) (p : SessionParcel) : Type 0 where
  pub known : p.receiver ≤ life
  pub offered' : p.message ≤ offered
  pub upto : UpTo (key σ) (numbers p)
  pub bound : IsSame (numbers p) (key σ) → IfSome σ.end.bound (λ b. (p.message ≡ number_of b) × (p.attempt ≤ b.attempt))

pub record SenderPart (σ : Sender) (life offered : ℕ) (out : List SenderPacket) : Type 0 where
  pub fits : (p : SessionParcel) → Emitted out p → Fits σ life offered p
  pub one : (p q : SessionParcel) → Emitted out p → Emitted out q → IsSame (numbers p) (numbers q) → p.message ≡ q.message
  pub peer : σ.peer ≤ life

-- the receiver takes this parcel no more, and took none of its binding
pub record Dead (o : Point) (taken : List SessionParcel) (p : SessionParcel) : Type 0 where
  pub closed : IsClosed o (numbers p)
  pub untaken : (d : SessionParcel) → Among d taken → IsSame (numbers d) (numbers p) → ⊥

-- dead are the parcels of a message that was bound again since, waits, or is returned
pub record DeadPart (σ : Sender) (out : List SenderPacket) (queue : List ℕ) (past : List SessionEntry) (o : Point) (taken : List SessionParcel) : Type 0 where
  pub later : (p q : SessionParcel) → Emitted out p → Emitted out q → p.message ≡ q.message → Before (numbers q) (numbers p) → Dead o taken p
  pub bound : (p : SessionParcel) (b : Bound) → Emitted out p → σ.end.bound ≡ Some b → p.message ≡ number_of b → Before (key σ) (numbers p) → Dead o taken p
  pub queued : (p : SessionParcel) → Emitted out p → 1 ≤ waiting p.message queue → Dead o taken p
  pub returned : (p : SessionParcel) → Emitted out p → 1 ≤ count_by (returns p.message) past → Dead o taken p

abbrev pub answer_numbers : SessionAnswer → Numbers
answer_numbers a = record { receiver = a.receiver; sender = a.sender; seq = a.seq; attempt = a.attempt }

-- an answer that refuses tells the truth: the receiver takes that try no more, and took none before it
pub record Refuses (o : Point) (taken : List SessionParcel) (a : SessionAnswer) : Type 0 where
  pub closed : IsClosed o (answer_numbers a)
  pub untaken : (d : SessionParcel) → Among d taken → IsSame (numbers d) (answer_numbers a) → a.attempt < d.attempt

pub record ReceiverPart (out : List SenderPacket) (back : List ReceiverPacket) (o : Point) (taken : List SessionParcel) : Type 0 where
  pub emitted : (d : SessionParcel) → Among d taken → Emitted out d
  pub settled : (d : SessionParcel) → Among d taken → IsSettled o (numbers d)
  pub answers : (a : SessionAnswer) → Among (FromReceiver.Answer a) back → ◌≡◌ {A = ℕ} (weight a.verdict) 0 → Refuses o taken a
  pub welcomes : (sender receiver : ℕ) → Among (FromReceiver.Welcome sender receiver) back → receiver ≤ o.incarnation

-- what is put is taken, and each message once
pub record Tally (past : List SessionEntry) (taken : List SessionParcel) : Type 0 where
  pub put : (m : ℕ) → count_by (puts m) past ≡ count_by (is_taken m) taken
  pub once : (m : ℕ) → count_by (is_taken m) taken ≤ 1

pub record Holds (s : SessionState) (taken : List SessionParcel) (past : List SessionEntry) : Type 0 where
  pub places : Places s.sender.end.bound s.traffic.offered s.traffic.queue past
  pub sender' : SenderPart s.sender s.receiver.incarnation s.traffic.offered s.traffic.from_sender
  pub dead : DeadPart s.sender s.traffic.from_sender s.traffic.queue past (point s.receiver) taken
  pub receiver' : ReceiverPart s.traffic.from_sender s.traffic.from_receiver (point s.receiver) taken
  pub tally : Tally past taken
