pub mod Strip
pub mod Spot
pub mod Kept
pub mod Meaning
