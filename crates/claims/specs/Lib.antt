pub mod Claims
pub mod Fractions
pub mod Parts
pub mod Converting
pub mod Sizing
