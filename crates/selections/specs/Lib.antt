pub mod Selections
pub mod Costs
pub mod Laws
pub mod Examples
