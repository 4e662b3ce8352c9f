pub mod Tables
pub mod Tableaux
