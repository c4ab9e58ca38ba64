pub mod Shapes
pub mod Drafted
