pub mod Passing
pub mod Tally
pub mod Claims
