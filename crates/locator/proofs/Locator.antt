-- The locator by Berlekamp and Massey: what its steps keep, how long it grows, the errors at its roots, and that as many roots among
-- the places as it is long explain its sums.
pub mod Shape
pub mod Massey
pub mod Size
pub mod Roots
pub mod Reached
pub mod AllReached
pub mod Along
pub mod Recurrence
pub mod Progression
