pub mod Entries
pub mod Noting
pub mod OneRoom
pub mod Seeing
