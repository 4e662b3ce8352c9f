pub mod Complete
pub mod Exactness
pub mod Examples
pub mod ReadBooks
pub mod ReadNumbers
pub mod Sound
pub mod Splits
pub mod Values
