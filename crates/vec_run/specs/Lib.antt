pub mod Alone
pub mod Ends
pub mod Exact
pub mod Refusals
pub mod Replies
pub mod Runs
pub mod Scripts
pub mod Verbs
