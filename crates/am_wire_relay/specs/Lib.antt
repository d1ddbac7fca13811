pub mod Shapes
pub mod Relays
