pub mod OneAtATime
pub mod Alone
pub mod Scans
pub mod GateHolds
pub mod Removing
pub mod Prefixes
pub mod ByActs
pub mod OneMore
