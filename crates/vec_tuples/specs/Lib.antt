-- The definition: the one spelling of each tuple, and what reading makes of any bytes.
pub mod Spelling
pub mod Reading
-- What the calls answer, in those words.
pub mod Answers
