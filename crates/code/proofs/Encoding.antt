-- How the register works out check values.
pub mod Factors
pub mod Division
pub mod Feeding
pub mod Windows
pub mod CheckValues
pub mod Entry
