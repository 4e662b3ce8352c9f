pub mod Branches
pub mod Shapes
pub mod Fits
