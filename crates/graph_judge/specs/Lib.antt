pub mod Course
pub mod Deciding
pub mod Knowable
