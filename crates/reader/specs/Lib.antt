pub mod Lines
pub mod Told
pub mod Pairs
pub mod Sides
