pub mod Rowwise
pub mod Limited
