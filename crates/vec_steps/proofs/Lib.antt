pub mod Following
pub mod AsDeeds
pub mod Filling
pub mod Stillness
pub mod Lasting
pub mod Turning
pub mod Turned
pub mod Legality
