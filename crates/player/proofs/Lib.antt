pub mod Labels
pub mod Printing
pub mod Plans
pub mod Calling
pub mod Parts
