-- Both directions of the decoder, for one plane.
pub mod Sound
pub mod Counted
pub mod Complete
