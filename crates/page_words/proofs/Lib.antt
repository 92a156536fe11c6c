pub mod NodeWords
pub mod RowWords
pub mod PutWords
pub mod Decisions
pub mod Counting
