pub mod Record
pub mod Recordable
