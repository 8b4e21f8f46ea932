pub mod Difference
pub mod Entry
pub mod Again
pub mod Promise
pub mod Steps
