pub mod Clear
pub mod FieldLaws
pub mod EachField
pub mod Loops
