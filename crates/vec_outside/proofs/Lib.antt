mod Crashes
pub mod Exits
mod InMemory
pub mod Moments
