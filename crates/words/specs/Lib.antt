pub mod SpokenNames
pub mod Speech
