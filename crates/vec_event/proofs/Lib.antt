pub mod Loops
pub mod EachField
pub mod CountedFields
pub mod EachKind
pub mod EachEvent
pub mod Readings
pub mod Lengths
