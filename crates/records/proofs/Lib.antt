pub mod Searches
pub mod Held
pub mod Shifts
pub mod Calls
pub mod Cards
