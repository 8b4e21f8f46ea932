-- Columns as built that follow the definitions' runs.
pub mod Writing
pub mod Following
pub mod ByteRecord
pub mod Sending
pub mod Group
pub mod Answers
pub mod Tested
