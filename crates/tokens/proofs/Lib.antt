pub mod Readers
pub mod Numbers
pub mod PowerSteps
pub mod FactorSteps
