pub mod Fit
pub mod Dol
pub mod Laws
pub mod Steps
