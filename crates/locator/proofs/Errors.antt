-- Weighted errors by the number of their place.
pub mod Places
pub mod Explained
pub mod Totals
pub mod Mended
pub mod Last
pub mod Marks
