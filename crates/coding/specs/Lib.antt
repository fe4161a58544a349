pub mod Schemes
pub mod Groups
pub mod Words
pub mod Pieces
pub mod Steps
pub mod Repairs
