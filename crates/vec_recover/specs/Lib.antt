-- What the bytes of an index recover to.
pub mod Recovering
-- What one reading of them tells, and why it gave up.
pub mod Telling
-- Helper words of the functions.
pub mod Parts
-- A new index on disks.
pub mod Creating
