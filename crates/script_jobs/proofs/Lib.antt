pub mod Sums
pub mod Looked
pub mod Chain
pub mod NoGate
pub mod Batches
pub mod Over
pub mod Going
pub mod Replied
