pub mod Bools
pub mod Options
pub mod Lists
pub mod Numbers
pub mod Bytes
pub mod Numbered
pub mod Binds
