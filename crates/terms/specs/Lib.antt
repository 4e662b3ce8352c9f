pub mod Rows
pub mod Naming
pub mod Tables
pub mod Written
pub mod Truth
pub mod Laws
pub mod Named
