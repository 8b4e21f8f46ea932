-- Exchanges that meet the conditions of demand 3, a frame that comes a round early, and counts of refused frames.
pub mod Exchange
pub mod Printed
pub mod Rough
pub mod Radio
pub mod Outcomes
pub mod Defined
pub mod Built
pub mod Early
pub mod Refused
pub mod Flood
