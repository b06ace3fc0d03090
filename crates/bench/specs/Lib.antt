pub mod Benches
pub mod Showing
