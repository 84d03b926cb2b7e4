pub mod Asked
pub mod Beside
