pub mod Replays
pub mod Placed
pub mod AllowedFits
pub mod LegalReplay
