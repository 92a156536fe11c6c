pub mod Over
pub mod Courses
pub mod Parts
pub mod Whole
