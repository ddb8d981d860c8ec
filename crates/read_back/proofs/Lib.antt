pub mod Inking
pub mod Joining
