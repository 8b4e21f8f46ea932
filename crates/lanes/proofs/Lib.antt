pub mod Lane
pub mod Multiples
pub mod Bits
pub mod Tables
