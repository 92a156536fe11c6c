pub mod Viewing
pub mod Standing
pub mod Nearness
pub mod Scanning
pub mod Walking
