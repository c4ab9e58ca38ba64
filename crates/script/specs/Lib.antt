pub mod Names
pub mod Built
pub mod Lines
