pub mod Reaching
pub mod Touching
pub mod Standing
pub mod Examples
pub mod Counting
