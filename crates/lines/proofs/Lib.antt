pub mod Parts
pub mod Putting
pub mod Lines
pub mod Results
pub mod Outputs
pub mod Keeping
pub mod Feeding
pub mod Whole
