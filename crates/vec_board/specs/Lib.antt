-- What a board keeps of a history, what its core stands on, and what one act makes of it.
pub mod Keeping
pub mod Ready
pub mod Summaries
pub mod Standing
pub mod Acting
pub mod Looking
pub mod Serving
pub mod Settling
pub mod Changes
pub mod AllAsks
pub mod Boards
pub mod Doomed
