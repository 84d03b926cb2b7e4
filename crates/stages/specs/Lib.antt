pub mod Brought
pub mod Courses
pub mod Nexts
