pub mod Size
pub mod Starred
