pub mod Frame
pub mod Taken
pub mod Sent
pub mod Step
pub mod Asked
pub mod Outcome
