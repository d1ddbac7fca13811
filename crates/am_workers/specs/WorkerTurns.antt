-- What a turn of each worker does that has not stopped.
use Rattle.std.specs.Prelude.{◌≡◌, ◌⊎◌, ℕ, ◌+◌, ◌-◌, ◌<◌, nat_lt, if◌then◌else◌, Option, Some, None, List, [], length, slice_get}
use Rattle.am_places.specs.Seats.{pass_of}
use Rattle.am_model.specs.Layout.{node_at}
use Rattle.am_model_parts.specs.declared.work.Work.{Work}
use Rattle.am_swap_device.specs.Memory.{device_of}
use Rattle.am_wire.specs.Links.{free_places, known, waiting}
use Rattle.am_wire.specs.declared.receiving.LinkIn.{LinkIn}
use Rattle.am_wire.specs.declared.sending.LinkOut.{LinkOut}
use Rattle.am_driver.specs.Turns.{Answer, DriverTurns}
use Rattle.am_workers_laws.specs.Invariants.Seats.{Ids}
use Rattle.am_workers_laws.specs.Invariants.Works.{Hand}
use Rattle.am_workers.specs.Turns.Callers.{CallTurns, next_after}
use Rattle.am_workers.specs.Turns.Chosen.{chosen_work, next_place, since_after, since_of, turn_after, turn_of}
use Rattle.am_workers.specs.Turns.Servers.{hand_after, out_of}
use Rattle.am_workers.specs.Turns.Turns.{WhyTurned, WorkTurns, clock_after}
use Rattle.am_workers.specs.declared.turns.turns.InterfaceTurn.{InterfaceTurn}
use Rattle.am_workers.specs.declared.turns.turns.ThreadTurn.{ThreadTurn}
use Rattle.am_workers.specs.Stops.{stop_after_call, stop_after_move, stop_after_work}
use Rattle.am_workers.specs.Ways.{Prepares}
use Rattle.am_workers.specs.declared.workers.DriverWorker.{DriverWorker}
use Rattle.am_workers.specs.declared.workers.InterfaceWorker.{InterfaceWorker}
use Rattle.am_workers.specs.declared.workers.Stop.TheVariants as Stops
use Rattle.am_workers.specs.declared.workers.ThreadWorker.{ThreadWorker}

-- ---- a thread

-- how many calls it has made, where one was left or none
abbrev pub next_by : ℕ → Option ThreadTurn → ℕ
next_by next None = next
next_by next (Some turn) = next_after next turn

-- the stamp of its last entry
abbrev pub clock_by : ℕ → Option ThreadTurn → ℕ
clock_by clock None = clock
clock_by clock (Some turn) = clock_after clock turn

-- it made its turn with its next call, if it has one that it can make on its node. Its calls and its clock move on with what it made, and a full log
-- stops it, and want of memory
pub record TurnsThread (ids : Ids) (v w : ThreadWorker) : Type 0 where
  pub made : Option ThreadTurn
  pub turn : CallTurns ids v.script.items v.thread v.next v.clock (pass_of v.seat) (pass_of w.seat) made
  pub next : w.next ≡ next_by v.next made
  pub clock : w.clock ≡ clock_by v.clock made
  pub stop : w.stop ≡ stop_after_call made
  pub script : w.script ≡ v.script

-- ---- a driver

-- it looked at the endpoints of its node and made the move that its rules gave, if they gave it still. A full log stops it, and want of memory
pub record TurnsDriver (v w : DriverWorker) : Type 0 where
  pub moved : Answer
  pub turn : DriverTurns (length v.view.ends) v.node v.clock w.clock v.view w.view (device_of v.swap) (device_of w.swap) (pass_of v.seat) (pass_of w.seat) moved
  pub stop : w.stop ≡ stop_after_move moved

-- ---- an interface

-- no released packet waits outside the ring of a link, or the ring has no place that is known to be free
abbrev pub AreWhole : List LinkOut → Type 0
AreWhole outs = (k : ℕ) (o : LinkOut) → slice_get outs k ≡ Some o → (waiting o ≡ []) ⊎ (free_places o ≡ 0)

-- so it is with the links to the first nodes, so many
abbrev pub AreWholeTo : ℕ → List LinkOut → Type 0
AreWholeTo count outs = (k : ℕ) (o : LinkOut) → k < count → slice_get outs k ≡ Some o → (waiting o ≡ []) ⊎ (free_places o ≡ 0)

-- what it did with this work: a packet that it received leaves its hand, a channel on which it emitted a parcel waits from this turn on, a bind passes on
-- to the next endpoint, and a full log stops it, and want of memory
pub record DoesWork (ids : Ids) (work : Work) (w u : InterfaceWorker) : Type 0 where
  pub made : InterfaceTurn
  pub turn : WorkTurns work w.interface u.interface (pass_of w.seat) (pass_of u.seat) made
  pub why : WhyTurned ids work w.interface (pass_of w.seat) (pass_of u.seat) made
  pub hand : u.hand ≡ hand_after w.hand work made
  pub begun : turn_of u.waits ≡ turn_of w.waits
  pub since : since_of u.waits ≡ since_after (turn_of w.waits) (out_of made) (since_of w.waits)
  pub end : u.end ≡ next_place w.end work (length ids)
  pub stop : u.stop ≡ stop_after_work made

abbrev pub Does : Ids → InterfaceWorker → InterfaceWorker → Option Work → Type 0
Does ids w u None = u ≡ w
Does ids w u (Some work) = DoesWork ids work w u

-- one more of its turns begins, and it did the work that it then chose, if there is one to do
pub record FindsWork (ids : Ids) (v u : InterfaceWorker) : Type 0 where
  pub w : InterfaceWorker
  pub same : w ≡ record v { waits = w.waits }
  pub begun : turn_of w.waits ≡ turn_after (turn_of v.waits)
  pub since : since_of w.waits ≡ since_of v.waits
  pub does : Does ids w u (chosen_work w.waits w.interface w.hand ids w.end)

-- the place so many steps on from this one, of so many: after the last comes the first
abbrev pub place_on : ℕ → ℕ → ℕ → ℕ
place_on from count steps = if nat_lt (from + steps) count then from + steps else from + steps - count

-- none of the first links has a packet that is known, so many, counted round from this place on
abbrev pub NoneIsKnown : List LinkIn → ℕ → ℕ → Type 0
NoneIsKnown ins from passed = (n : ℕ) (i : LinkIn) → n < passed → slice_get ins (place_on from (length ins) n) ≡ Some i → known i ≡ []

-- it looked at each link once, counted round from this place on, up to the first that gave a packet: those that it passed over had none that was known, and
-- next time it looks at the one after. Where none gave one, none had one that was known
abbrev pub TakesFirst : List LinkIn → ℕ → ℕ → Hand → Type 0
TakesFirst ins from from' None = (from' ≡ from) × NoneIsKnown ins from (length ins)
TakesFirst ins from from' (Some h) =
    (passed : ℕ) × (passed < length ins) × (h.0 ≡ node_at (place_on from (length ins) passed)) × (from' ≡ place_on from (length ins) (passed + 1)) × NoneIsKnown ins from passed

-- with a packet in hand it takes none
abbrev pub TakesInHand : Hand → Hand → List LinkIn → ℕ → ℕ → Type 0
TakesInHand None hand ins from from' = TakesFirst ins from from' hand
TakesInHand (Some h) hand ins from from' = (hand ≡ Some h) × (from' ≡ from)

-- it looked at its links: no released packet waits on them where a place is known to be free
pub record LooksAtLinks (v u : InterfaceWorker) : Type 0 where
  pub prepares : Prepares v u
  pub whole : AreWhole u.outs.items
  pub takes : TakesInHand v.hand u.hand v.ins.items v.from u.from
  pub waits : u.waits ≡ v.waits
  pub end : u.end ≡ v.end

-- a turn: it looked at its links, and then did the work that it chose; or it found no room for a packet on a link, took none, and stops
pub data TurnsInterface (ids : Ids) (v w : InterfaceWorker) : Type 0 where
  Turned : (u : InterfaceWorker) → LooksAtLinks v u → FindsWork ids u w → TurnsInterface ids v w
  Starved : Prepares v w → w.hand ≡ v.hand → w.ins ≡ v.ins → w.stop ≡ Some Stops.NoMemory → TurnsInterface ids v w
