pub mod Numbers
pub mod NameLaws
