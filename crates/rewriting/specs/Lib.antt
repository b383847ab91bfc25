pub mod Texts
pub mod Letters
pub mod Names
pub mod Forms
pub mod Units
pub mod Sources
pub mod Buffers
