pub mod Holding
pub mod Gated
pub mod Exits
