pub mod Scenario
pub mod Command
pub mod File
pub mod Steps
