pub mod Torn
pub mod Going
pub mod Blocks
pub mod OtherLogs
