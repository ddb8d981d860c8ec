pub mod Decimal
pub mod Joins
pub mod Searches
pub mod Splices
pub mod Taking
