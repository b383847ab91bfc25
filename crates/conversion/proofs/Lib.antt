pub mod Raising
pub mod Signs
pub mod Fractions
pub mod Summing
pub mod Converting
