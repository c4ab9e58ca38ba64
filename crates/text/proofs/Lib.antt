pub mod Unlisted
mod Numerals
mod Characters
mod Splits
mod Phrases
