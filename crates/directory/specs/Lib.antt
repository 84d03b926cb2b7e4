pub mod Directory
pub mod Found
pub mod Kept
pub mod Meaning
