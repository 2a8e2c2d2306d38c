pub mod Pairs
pub mod Problems
pub mod Solved
pub mod Promises
