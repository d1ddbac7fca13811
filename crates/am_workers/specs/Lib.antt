pub mod AtWork
pub mod Begins
pub mod Stops
pub mod Ways
pub mod WorkerTurns
pub mod Turns
