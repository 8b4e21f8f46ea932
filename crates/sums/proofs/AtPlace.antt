-- Powers of places and roots, and polynomials at a place.
pub mod Powers
pub mod Polynomials
