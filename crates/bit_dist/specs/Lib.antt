pub mod Shared
pub mod Distances
pub mod Orders
pub mod Hits
