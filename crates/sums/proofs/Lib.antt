pub mod Sums
pub mod AtPlace
