pub mod Filling
pub mod Same
