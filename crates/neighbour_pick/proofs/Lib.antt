pub mod Selecting
pub mod Choosing
pub mod Sifted
pub mod Standings
