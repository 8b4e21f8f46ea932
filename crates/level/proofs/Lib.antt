pub mod Integers
pub mod Placing
pub mod Remaining
pub mod Gathering
pub mod Left
pub mod Asking
pub mod Sorting
pub mod Example
