pub mod Logs
pub mod Pages
pub mod Moves
pub mod Devices
pub mod Choice
