pub mod Steps
pub mod Order
pub mod Laws
pub mod Padded
