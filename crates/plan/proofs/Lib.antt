pub mod Firsts
pub mod Fillings
pub mod Plans
pub mod Putting
