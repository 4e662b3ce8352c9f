pub mod Scan
pub mod Outcomes
pub mod Exact
pub mod Layers
pub mod Piles
pub mod Gathering
