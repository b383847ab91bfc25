-- The definitions that this crate's contracts cite beside those of label.
pub mod Bounds
pub mod Quotients
