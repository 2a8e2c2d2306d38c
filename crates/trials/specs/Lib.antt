pub mod Changes
pub mod Trials
pub mod Laws
