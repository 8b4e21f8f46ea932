pub mod Seeking
pub mod Walk
pub mod Marked
pub mod NoRoots
pub mod Decoding
