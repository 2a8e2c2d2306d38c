pub mod Grossing
pub mod Later
pub mod Bounding
pub mod Ranging
pub mod Under
pub mod Placing
pub mod Laid
