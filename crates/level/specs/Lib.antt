pub mod Level
pub mod Promise
pub mod Entry
pub mod Answer
