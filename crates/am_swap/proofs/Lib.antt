pub mod Adding
pub mod Decoding
pub mod Encoding
pub mod Making
