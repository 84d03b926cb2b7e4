pub mod Numbers
pub mod State
pub mod Run
pub mod Calls
pub mod History
pub mod Account
pub mod Law
pub mod Theorems
