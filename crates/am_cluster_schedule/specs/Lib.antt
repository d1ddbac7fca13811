pub mod InTurn
pub mod Lone
pub mod Order
pub mod Schedules
