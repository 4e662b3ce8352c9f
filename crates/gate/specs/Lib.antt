pub mod State
pub mod Laws
pub mod Listings
pub mod Checking
pub mod Worked
