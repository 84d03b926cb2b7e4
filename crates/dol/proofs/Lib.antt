pub mod Parts
pub mod Entries
pub mod Fills
pub mod Lawful
