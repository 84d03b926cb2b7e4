pub mod Keys
pub mod Elements
pub mod Records
