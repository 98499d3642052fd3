pub mod Lengths
pub mod Rows
pub mod OneBit
pub mod Accepted
pub mod Written
