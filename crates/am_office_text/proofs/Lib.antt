pub mod Extended
mod Digits
mod Appended
