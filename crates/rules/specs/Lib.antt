pub mod Settings
pub mod Commands
pub mod Counting
pub mod Timer
pub mod Refusals
pub mod Answers
pub mod Kinds
