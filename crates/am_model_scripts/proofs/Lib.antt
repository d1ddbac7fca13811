pub mod Lists
pub mod Done
pub mod Links
pub mod Declared
pub mod Lawful
pub mod StepMakers
