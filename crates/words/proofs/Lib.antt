pub mod SpeechLaws
pub mod NumberWords
pub mod NameRows
pub mod TermWords
pub mod SpeakLaws
