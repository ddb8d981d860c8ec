pub mod Pieces
pub mod Searches
pub mod Sinking
pub mod Sinks
pub mod Splicing
pub mod Writes
