pub mod Ahead
pub mod Meanings
pub mod Bringing
pub mod Closed
