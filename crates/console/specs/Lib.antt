pub mod Shelves
pub mod Piles
pub mod Openings
pub mod Replies
pub mod Deeds
pub mod Desks
