pub mod Blocks
pub mod Crossing
pub mod Lending
pub mod Memory
pub mod Parts
pub mod Steps
