pub mod WrittenOver
pub mod Typed
pub mod PartSteps
pub mod Layouts
pub mod LentSteps
pub mod Proved
