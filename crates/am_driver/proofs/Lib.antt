pub mod Making
pub mod Looking
pub mod Moving
pub mod Entering
pub mod Turning
