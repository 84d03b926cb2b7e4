pub mod Amounts
pub mod Cryptograms
pub mod Decision
pub mod Laws
