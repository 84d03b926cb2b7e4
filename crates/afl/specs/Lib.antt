pub mod Afl
pub mod Laws
pub mod Steps
