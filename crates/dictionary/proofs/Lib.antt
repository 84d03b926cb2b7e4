pub mod Order
pub mod Naming
pub mod Search
pub mod Halves
