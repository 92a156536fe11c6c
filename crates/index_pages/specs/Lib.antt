-- Pages of an index of either method.
pub mod Standing
