pub mod Held
mod Tallies
