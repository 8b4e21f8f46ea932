pub mod Exchange
pub mod Promise
pub mod Steps
