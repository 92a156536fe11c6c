pub mod Placing
pub mod Deciding
