pub mod NoGate
