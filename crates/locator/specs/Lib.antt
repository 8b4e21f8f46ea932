pub mod Locator
pub mod Errors
pub mod Search
pub mod Reached
pub mod Plane
