pub mod Places
pub mod Trails
