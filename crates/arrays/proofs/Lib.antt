pub mod Bool
pub mod Written
pub mod Zeros
pub mod Front
pub mod Padded
pub mod Part
pub mod Bytes
