mod Digits
mod Hex
pub mod Tags
