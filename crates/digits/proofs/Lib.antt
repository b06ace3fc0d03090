mod Keeping
pub mod Rows
mod Splits
mod Shown
mod Numerals
