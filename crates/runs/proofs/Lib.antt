pub mod Buffers
pub mod Performing
pub mod Planning
pub mod Histories
pub mod Noting
pub mod Agreeing
pub mod Running
