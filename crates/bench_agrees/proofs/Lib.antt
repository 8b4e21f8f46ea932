pub mod Calls
pub mod Columns
pub mod Conditions
pub mod Lines
pub mod Agrees
pub mod Example
