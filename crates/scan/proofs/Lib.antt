pub mod Places
pub mod Scanning
pub mod Spellings
