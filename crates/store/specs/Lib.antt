pub mod Ranges
pub mod Meanings
pub mod Packing
pub mod Examples
pub mod Cellwise
pub mod Pairs
