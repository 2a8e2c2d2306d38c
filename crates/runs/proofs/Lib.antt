pub mod Steps
pub mod Limited
pub mod Promised
