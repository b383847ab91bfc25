pub mod Answering
pub mod Lettering
