pub mod Each
pub mod Signs
