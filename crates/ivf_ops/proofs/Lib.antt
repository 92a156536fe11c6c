pub mod Views
pub mod Asking
pub mod Nearest
pub mod OverLists
pub mod Chained
pub mod Walked
pub mod OverChains
