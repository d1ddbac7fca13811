pub mod Decimals
pub mod Cuts
pub mod Printed
pub mod Back
pub mod Free
pub mod Sound
pub mod Lines
mod Requests
