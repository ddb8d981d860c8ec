pub mod Imposing
pub mod Laws
