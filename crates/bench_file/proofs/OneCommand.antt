-- One command: its faults, and what it says where it has none.
pub mod Faults
pub mod Readings
