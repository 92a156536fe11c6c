pub mod AllowedNodes
pub mod SamePlaces
pub mod GrowingStates
pub mod Positions
pub mod KnownNodes
pub mod MapEntries
pub mod CleanNodes
pub mod Repairing
