-- Vectors of values: their planes, their check values, and how they lie in lent bytes.
pub mod Planes
pub mod ByPlanes
pub mod Checks
pub mod Cut
pub mod Storing
