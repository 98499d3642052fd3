pub mod Lines
pub mod Pages
pub mod Listing
pub mod Claims
