pub mod Mask
pub mod Masks
