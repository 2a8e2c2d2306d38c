pub mod Postings
pub mod Kinds
pub mod Amounts
pub mod Keeps
pub mod Sizes
