-- What a source and a sink in memory answer to each call, exactly.
use Rattle.std.specs.Prelude.{◌≡◌, ℕ, min, Bool, true, false, ◌&&◌, ◌==◌, nat_lt, List, ◌++◌, length, take, drop, Result, Ok, Err, if◌then◌else◌}
pub use Rattle.am_lemmas.specs.Counts.{fails_after}
use Rattle.am_io.specs.Causes.{one_more}
use Rattle.am_io.specs.declared.source.Failed.{Failed}
use Rattle.am_io.specs.declared.sink.SinkFault.{SinkFault}
use Rattle.am_io.specs.declared.sink.SinkFault.TheVariants as sinks

-- a source in memory: what is left, how many bytes a call gives at most, the numbers of the calls that fail, how many
-- calls and faults there were, and whether it has ended
pub record Supply : Type 0 where
  pub left : List ℕ
  pub most : ℕ
  pub fails : List ℕ
  pub calls : ℕ
  pub faults : ℕ
  pub ended : Bool

-- a sink in memory: what it holds, how many bytes a call takes at most, the numbers of the calls that fail, and how
-- many calls, faults and shortages of memory there were
pub record Store : Type 0 where
  pub held : List ℕ
  pub most : ℕ
  pub fails : List ℕ
  pub calls : ℕ
  pub faults : ℕ
  pub shortages : ℕ

-- how many bytes a read into so much room gives
abbrev pub given : Supply → ℕ → ℕ
given s room = if fails_after s.fails s.calls then 0 else min (min (length s.left) room) s.most

abbrev pub failed : Failed
failed = record {}

abbrev pub read_answer : Supply → ℕ → Result ℕ Failed
read_answer s room = if fails_after s.fails s.calls then Err failed else Ok (given s room)

-- a source after a read into so much room
abbrev pub after_read : Supply → ℕ → Supply
after_read s room =
    record {
      left = drop (given s room) s.left;
      most = s.most;
      fails = s.fails;
      calls = one_more s.calls;
      faults = if fails_after s.fails s.calls then one_more s.faults else s.faults;
      ended = if fails_after s.fails s.calls then s.ended else (given s room == 0 && nat_lt 0 room);
    }

-- the buffer after a read: the bytes that are given, and then what stood there
abbrev pub filled : Supply → List ℕ → List ℕ
filled s buffer = take (given s (length buffer)) s.left ++ drop (given s (length buffer)) buffer

-- how many bytes of a piece a write takes
abbrev pub taken : Store → List ℕ → ℕ
taken s piece = min (length piece) s.most

-- a sink after a write that takes bytes
abbrev pub after_write : Store → List ℕ → Store
after_write s piece =
    record {
      held = s.held ++ take (taken s piece) piece;
      most = s.most;
      fails = s.fails;
      calls = one_more s.calls;
      faults = s.faults;
      shortages = s.shortages;
    }

-- a sink after a write that fails
abbrev pub after_fault : Store → Store
after_fault s =
    record { held = s.held; most = s.most; fails = s.fails; calls = one_more s.calls; faults = one_more s.faults; shortages = s.shortages }

-- a sink after a write that finds no memory
abbrev pub after_shortage : Store → Store
after_shortage s =
    record { held = s.held; most = s.most; fails = s.fails; calls = s.calls; faults = s.faults; shortages = one_more s.shortages }

-- a write fails just where its number is listed, and else takes what it may, unless there is no memory
abbrev pub WritesSo : Result ℕ SinkFault → Store → Store → List ℕ → Type 0
WritesSo (Ok count) old new piece = (fails_after old.fails old.calls ≡ false) × (count ≡ taken old piece) × (new ≡ after_write old piece)
WritesSo (Err sinks.Failed) old new piece = (fails_after old.fails old.calls ≡ true) × (new ≡ after_fault old)
WritesSo (Err sinks.NoMemory) old new piece = (fails_after old.fails old.calls ≡ false) × (new ≡ after_shortage old)
