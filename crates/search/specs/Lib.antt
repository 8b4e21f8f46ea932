pub mod Planes
pub mod Steps
