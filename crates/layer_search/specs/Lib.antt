pub mod Waiting
pub mod Looking
pub mod Telling
pub mod Running
pub mod Listing
pub mod Resuming
pub mod Linking
