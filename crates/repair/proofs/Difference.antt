-- Repair by the difference of check values, and what it is to repair.
pub mod Values
pub mod Rows
pub mod OwnVector
pub mod ByOwnChecks
pub mod OwnChecks
