pub mod Checking
pub mod Admitted
