pub mod Numbers
pub mod Tables
pub mod Words
pub mod Phrases
