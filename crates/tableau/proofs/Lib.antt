pub mod Chunks
pub mod Passes
