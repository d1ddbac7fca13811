pub mod Shapes
pub mod Holding
