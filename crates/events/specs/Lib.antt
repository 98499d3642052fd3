pub mod Files
pub mod Blocks
pub mod Explain
pub mod Claims
pub mod Example
pub mod Stretch
