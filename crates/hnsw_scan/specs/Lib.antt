pub mod Answering
pub mod Gathering
pub mod Gated
pub mod Present
pub mod Scanning
pub mod Unharmed
