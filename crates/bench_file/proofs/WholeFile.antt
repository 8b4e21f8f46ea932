-- A file command by command, and what holds of all that it says.
pub mod Commands
pub mod Sound
