pub mod Located
pub mod OneCommand
pub mod WholeFile
