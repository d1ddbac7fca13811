pub mod Crews
pub mod Making
pub mod Node
