pub mod Text
pub mod Examples
