pub mod Meddling
