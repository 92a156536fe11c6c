pub mod Order
pub mod Selection
pub mod Slots
pub mod Sifting
pub mod Standing
