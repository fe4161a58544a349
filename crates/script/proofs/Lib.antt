pub mod Splits
pub mod Numerals
pub mod Hex
pub mod Commands
