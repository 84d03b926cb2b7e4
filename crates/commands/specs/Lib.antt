pub mod Commands
pub mod Building
pub mod Laws
