pub mod Records
pub mod Orderly
pub mod Ledger
pub mod Owned
pub mod Card
