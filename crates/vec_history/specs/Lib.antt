-- the definitions
pub mod Acts
pub mod Gates
pub mod Phases
pub mod Settling
pub mod Legal
pub mod Judging
-- helper words of deciders
pub mod Deciding
