pub mod Widths
pub mod Bitness
pub mod Constants
pub mod Reading
pub mod Instructions
pub mod Examples
