pub mod Fields
pub mod Record
pub mod Report
pub mod Calls
pub mod Reasons
