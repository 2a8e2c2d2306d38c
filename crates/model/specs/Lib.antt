pub mod Letters
pub mod Books
pub mod Components
pub mod Refusals
pub mod Studies
