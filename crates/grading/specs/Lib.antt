pub mod Value
pub mod Held
pub mod Count
pub mod Promise
