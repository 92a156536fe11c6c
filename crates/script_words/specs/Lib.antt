-- The definition: how bytes are cut into lines and words, the words of each command, and the script.
pub mod Lines
pub mod Commands
pub mod Grammar
pub mod Faults
-- The replies.
pub mod Replies
-- What the parts of the reader tell. No contract of a public function cites it.
pub mod Parts
