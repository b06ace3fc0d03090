pub mod Rings
pub mod Rounds
