pub mod Views
pub mod Named
pub mod Sums
pub mod Verdicts
pub mod Totals
