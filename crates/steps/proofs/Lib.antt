pub mod Rooms
pub mod Forks
pub mod Same
pub mod Steps
