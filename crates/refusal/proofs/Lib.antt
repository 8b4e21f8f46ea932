pub mod Positive
