pub mod JointSteps
pub mod TermSteps
pub mod StepLaws
pub mod LabelSteps
