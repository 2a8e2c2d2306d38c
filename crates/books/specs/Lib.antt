pub mod Echelons
pub mod PriceRows
pub mod Gross
pub mod Prices
pub mod Charges
pub mod Marks
pub mod Rulings
pub mod Laws
