pub mod Laids
pub mod Flats
pub mod Turns
pub mod Clears
pub mod Blanks
