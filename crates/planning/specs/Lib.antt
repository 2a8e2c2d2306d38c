pub mod Surveys
pub mod Sums
pub mod OpenRows
pub mod Objections
pub mod Decisions
pub mod Asking
