pub mod Nths
pub mod TableLaws
pub mod Settling
pub mod Writing
pub mod Apart
pub mod NamingLaws
pub mod Sound
