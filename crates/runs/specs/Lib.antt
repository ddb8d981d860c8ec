pub mod Editions
pub mod Replies
pub mod History
pub mod Steps
pub mod Logs
pub mod Jobs
pub mod Law
pub mod Runs
