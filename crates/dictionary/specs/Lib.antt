pub mod Dictionary
pub mod Checks
pub mod Names
pub mod Places
