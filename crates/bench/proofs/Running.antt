-- The run of a group: what a column hears, round by round, and that a group has one run.
pub mod Hearing
pub mod Exchanged
pub mod OneRun
