pub mod Places
pub mod Centres
pub mod Working
