pub mod Area
pub mod Causes
