-- The definition: replay of a log's events on the pages of a graph.
pub mod Replaying
