pub mod Group
pub mod Listing
pub mod Entry
pub mod Promise
pub mod Steps
