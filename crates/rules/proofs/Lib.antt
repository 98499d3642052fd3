pub mod Refusals
pub mod Counters
