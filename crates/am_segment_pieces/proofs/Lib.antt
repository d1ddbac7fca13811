pub mod Written
pub mod Counted
pub mod RoundTrip
pub mod Cuts
pub mod Arrives
