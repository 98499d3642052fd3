pub mod Fields
pub mod Tests
pub mod Block
pub mod BlockReader
