pub mod Written
pub mod Series
pub mod Tagged
pub mod Taking
pub mod Each
pub mod Once
