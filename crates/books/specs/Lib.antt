pub mod Runs
pub mod Books
