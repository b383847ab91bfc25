-- The laws that the proofs of this crate cite.
pub mod Computing
pub mod RowLaws
pub mod KeyLaws
pub mod PairLaws
pub mod SetLaws
pub mod Quotes
pub mod GroupLaws
pub mod NameLaws
pub mod PrefixLaws
pub mod CutLaws
pub mod SymbolLaws
pub mod UnitLaws
pub mod PropertyLaws
