pub mod Turns
mod Loop
