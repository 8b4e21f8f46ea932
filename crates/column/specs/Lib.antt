pub mod Call
pub mod Entry
pub mod Promise
pub mod Steps
pub mod Answer
