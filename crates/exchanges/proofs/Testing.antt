-- Tests that decide what the definitions say, so that examples can be computed.
pub mod NoneNear
pub mod Table
pub mod Stepping
pub mod Frames
pub mod Conditions
