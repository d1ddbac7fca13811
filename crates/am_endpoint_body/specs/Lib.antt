pub mod Views
pub mod Kept
pub mod Flights
pub mod Moves
pub mod Walks
pub mod Parts
pub mod Refusals
pub mod Replies
