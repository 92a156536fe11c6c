pub mod Ranks
pub mod RankedOrder
pub mod Parts
