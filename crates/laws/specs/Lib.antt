pub mod Examples
pub mod Devices
pub mod Roundtrip
pub mod Accepted
pub mod Temporaries
pub mod Places
pub mod Longest
pub mod Firsts
