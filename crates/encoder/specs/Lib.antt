pub mod Fields
pub mod Encodings
pub mod Laws
pub mod Layouts
pub mod Laid
