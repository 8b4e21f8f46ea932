pub mod Longest
pub mod Told
pub mod Quotients
