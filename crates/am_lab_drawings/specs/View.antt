pub mod Parts
pub mod Standings
pub mod Pictures
pub mod Messages
pub mod Laws
