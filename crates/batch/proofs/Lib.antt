pub mod Alone
pub mod Counts
