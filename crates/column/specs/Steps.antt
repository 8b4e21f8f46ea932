-- What the steps of the program compute: a reader of the promises needs none of it.
pub mod Holdings
pub mod Sending
