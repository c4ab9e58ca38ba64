pub mod Codes
mod Readings
