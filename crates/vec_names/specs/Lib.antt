pub mod Params
pub mod Levels
pub mod Order
pub mod Places
pub mod Pointer
pub mod Lending
