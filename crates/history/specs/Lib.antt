pub mod Effects
pub mod Facts
pub mod Edges
pub mod Claims
pub mod Order
