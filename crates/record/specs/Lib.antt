pub mod Frame
pub mod Record
pub mod Refusal
pub mod View
pub mod Stored
pub mod Steps
