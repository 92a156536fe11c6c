pub mod Content
pub mod Spelling
pub mod Decoding
pub mod Splice
pub mod Dropping
pub mod Faults
pub mod Format
