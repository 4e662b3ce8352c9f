pub mod Given
pub mod Rules
pub mod Walking
pub mod ProofFiles
pub mod Follows
pub mod Laws
pub mod Misreadings
