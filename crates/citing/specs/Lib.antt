pub mod Open
pub mod Rests
