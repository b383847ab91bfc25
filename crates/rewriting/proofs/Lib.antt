pub mod TextLaws
pub mod NumberLaws
pub mod LetterLaws
pub mod PowerLaws
pub mod NameTable
pub mod UnitTexts
pub mod LabelTexts
pub mod Delivering
