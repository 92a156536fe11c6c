-- Reads of a desk that holds the gate Scan.
pub mod Reading
