pub mod Ranking
pub mod Masks
