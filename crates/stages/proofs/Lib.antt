pub mod Bringing
pub mod Cards
pub mod Commanding
pub mod Leaving
