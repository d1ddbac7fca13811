pub mod Turns
pub mod Callers
pub mod Servers
pub mod Chosen
pub mod Tests
