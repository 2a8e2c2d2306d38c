pub mod Shown
pub mod Taken
pub mod Quoted
pub mod Solutions
pub mod Trials
