pub mod Answers
pub mod Fields
pub mod Page
pub mod Reader
pub mod Claims
