pub mod Names
pub mod Styles
