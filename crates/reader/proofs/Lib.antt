pub mod Tens
pub mod Operands
pub mod Emits
pub mod Sides
