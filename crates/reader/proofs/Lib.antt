pub mod Following
pub mod Opening
