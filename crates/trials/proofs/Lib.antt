pub mod Changes
pub mod ChangedRecords
pub mod Turns
