-- What is printed: numbers, texts put into an output, the lines, and that a file has one output.
pub mod Text
pub mod Decimal
pub mod Wording
pub mod Output
pub mod OneOutput
