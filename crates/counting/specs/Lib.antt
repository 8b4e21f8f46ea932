pub mod Stored
pub mod Steps
