pub mod Going
pub mod Two
