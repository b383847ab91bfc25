pub mod Typing
pub mod Layout
pub mod Claims
