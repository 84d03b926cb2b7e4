pub mod Refusals
pub mod Shown
pub mod Output
pub mod Wanted
pub mod Listing
pub mod Laws
pub mod Steps
