pub mod Masks
pub mod Courses
pub mod Tallies
pub mod Dropping
pub mod Removing
pub mod Taking
pub mod Marking
pub mod Seeking
