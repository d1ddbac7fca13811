mod Begins
mod Linking
mod Turned
mod Working
mod Looking
pub mod TurnBooks
pub mod Resting
pub mod Answering
pub mod WorkTurns
pub mod TurnsTaken
pub mod Serving
pub mod Receiving
pub mod Ranged
pub mod Done
pub mod Sending
pub mod Same
pub mod Firsts
