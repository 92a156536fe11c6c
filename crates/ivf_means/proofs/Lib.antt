pub mod FirstPlaces
pub mod Gaps
pub mod Tallies
pub mod Moving
pub mod RoundsSoFar
pub mod Lengths
