pub mod Refused
pub mod Replies
pub mod Own
