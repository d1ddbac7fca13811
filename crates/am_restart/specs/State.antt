-- The state of a session.
use Rattle.std.specs.Prelude.{ℕ, ◌+◌, ◌-◌, ◌==◌, List, [], ◌∷◌, ◌++◌, drop, Option, None, slice_get, if◌then◌else◌}
use Rattle.am_restart.specs.declared.ends.Sender.{Sender}
use Rattle.am_restart.specs.declared.ends.Receiver.{Receiver}
use Rattle.am_restart.specs.declared.moves.Change.{Change}
use Rattle.am_restart.specs.declared.moves.Change.TheVariants as Changes
use Rattle.am_restart.specs.declared.moves.SessionMove.{SessionMove}
use Rattle.am_restart.specs.Traffics.{Traffic}
use Rattle.am_restart.specs.Ends.{new_sender, new_receiver}

-- a session: how often a message may be tried, how many events it has seen, what was offered and emitted, and what both
-- interfaces know
pub record SessionState : Type 0 where
  pub tries : ℕ
  pub events : ℕ
  pub traffic : Traffic
  pub sender : Sender
  pub receiver : Receiver

-- a session in which nothing happened: both interfaces have started once, and know nothing
abbrev pub opening : ℕ → SessionState
opening tries =
    record {
      tries = tries;
      events = 0;
      traffic = record { offered = 0; queue = []; from_sender = []; from_receiver = [] };
      sender = new_sender 1 0;
      receiver = new_receiver 1 0;
    }

-- the packet with this number, counted from 1
abbrev pub packet_at : {P : Type 0} → List P → ℕ → Option P
packet_at packets number = if number == 0 then None else slice_get packets (number - 1)

-- what was offered and emitted after a change
abbrev pub changed : Change → Traffic → Traffic
changed Changes.Nothing t = t
changed Changes.Offers t = record t { offered = t.offered + 1; queue = t.queue ++ (t.offered + 1) ∷ [] }
changed (Changes.Requeues message) t = record t { queue = t.queue ++ message ∷ [] }
changed (Changes.Binds packet) t = record t { queue = drop 1 t.queue; from_sender = t.from_sender ++ packet ∷ [] }
changed (Changes.Sends packet) t = record t { from_sender = t.from_sender ++ packet ∷ [] }
changed (Changes.Answers packet) t = record t { from_receiver = t.from_receiver ++ packet ∷ [] }

-- the session after a move
abbrev pub moved : SessionMove → SessionState → SessionState
moved m s = record { tries = s.tries; events = s.events + 1; traffic = changed m.change s.traffic; sender = m.sender; receiver = m.receiver }
