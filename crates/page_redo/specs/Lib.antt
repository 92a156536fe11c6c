-- The definition of redo: the tuples of a page, the change that each kind of event makes of a page, and redo itself.
pub mod PageTuples
pub mod PageChanges
pub mod Redo
-- Redo on all pages of an index: the fresh pages that an event makes, events that fit, and replay of a log.
pub mod Growing
pub mod Fitting
pub mod Replaying
-- What the parts of redo decide and tell. No contract of a public function cites it.
pub mod OfParts
