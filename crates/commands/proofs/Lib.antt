pub mod Data
pub mod Frames
pub mod Shapes
pub mod Named
