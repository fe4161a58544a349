pub mod Meaning
pub mod Laid
pub mod Shaped
pub mod Flat
pub mod Turning
pub mod Cleared
