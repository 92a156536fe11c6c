-- The definition: pages that stand for a graph, redo on all pages of an index, events that fit them and that follow, and which
-- deleted element gives its places.
pub mod Standing
pub mod Effects
pub mod Fitting
pub mod Following
pub mod Choosing
-- What the check of the pages and the reading of the nodes keep as they go, and how it is told what follows. No contract of a public function cites it.
pub mod Decoding
pub mod FollowTests
pub mod Filling
