pub mod Terms
pub mod Joints
pub mod Steps
pub mod Labels
