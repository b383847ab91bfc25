-- The definitions that the contracts of this crate cite.
pub mod Keys
pub mod Sets
pub mod Names
pub mod Groups
pub mod Columns
pub mod Views
pub mod Slots
