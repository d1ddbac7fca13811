-- When a worker makes no further turn, by what its turn answered.
use Rattle.std.specs.Prelude.{Option, Some, None, Result, Ok, Err}
use Rattle.am_driver.specs.declared.turns.DriverFault.{DriverFault}
use Rattle.am_driver.specs.declared.turns.DriverFault.TheVariants as Faults
use Rattle.am_driver.specs.declared.turns.DriverTurn.{DriverTurn}
use Rattle.am_workers.specs.declared.turns.turns.InterfaceTurn.{InterfaceTurn}
use Rattle.am_workers.specs.declared.turns.turns.InterfaceTurn.TheVariants as Worked
use Rattle.am_workers.specs.declared.turns.turns.ThreadTurn.{ThreadTurn}
use Rattle.am_workers.specs.declared.turns.turns.ThreadTurn.TheVariants as Turns
use Rattle.am_workers.specs.declared.workers.Stop.{Stop}
use Rattle.am_workers.specs.declared.workers.Stop.TheVariants as Stops

-- a thread stops where a log was full or there was no memory
abbrev pub stop_after_call : Option ThreadTurn → Option Stop
stop_after_call (Some Turns.Full) = Some Stops.LogFull
stop_after_call (Some Turns.NoMemory) = Some Stops.NoMemory
stop_after_call turn = None

-- an interface too
abbrev pub stop_after_work : InterfaceTurn → Option Stop
stop_after_work Worked.Full = Some Stops.LogFull
stop_after_work Worked.NoMemory = Some Stops.NoMemory
stop_after_work turn = None

-- and so does a driver
abbrev pub stop_after_move : Result DriverTurn DriverFault → Option Stop
stop_after_move (Ok turn) = None
stop_after_move (Err (Faults.LogFull end)) = Some Stops.LogFull
stop_after_move (Err Faults.NoMemory) = Some Stops.NoMemory
