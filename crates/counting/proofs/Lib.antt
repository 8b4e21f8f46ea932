pub mod Placed
pub mod Planes
pub mod Bytewise
pub mod Alike
pub mod Best
pub mod Settling
pub mod Columns
pub mod Tallied
