pub mod Keys
pub mod Bests
pub mod Slots
pub mod Leading
pub mod Naming
pub mod Standing
