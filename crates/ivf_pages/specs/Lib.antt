-- The definition: pages that stand for an index of lists, and the events that follow on them.
pub mod Standing
pub mod Walking
pub mod FollowTests
pub mod Effects
pub mod Following
pub mod Replaying
pub mod Examples
