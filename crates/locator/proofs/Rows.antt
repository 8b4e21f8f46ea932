-- A plane of the rows, read and written byte by byte.
pub mod Lanes
