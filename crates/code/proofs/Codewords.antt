-- The words of a plane, and why no two codewords are near the same bytes.
pub mod Place
pub mod PowerSum
pub mod Errors
pub mod Word
pub mod Near
pub mod Tried
pub mod Linear
pub mod Quick
