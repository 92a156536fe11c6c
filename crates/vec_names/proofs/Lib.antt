pub mod PlaceLaws
pub mod Pointers
pub mod Maps
pub mod LevelLaws
