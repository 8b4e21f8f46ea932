pub mod Spread
pub mod Promise
pub mod Built
