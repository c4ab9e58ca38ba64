pub mod Options
pub mod Wraps
pub mod Shapes
pub mod Rows
pub mod Fields
pub mod Readings
pub mod ShapeLaws
