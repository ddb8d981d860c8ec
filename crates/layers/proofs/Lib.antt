pub mod Exactly
pub mod Starting
pub mod Selecting
pub mod Keeping
pub mod Showing
pub mod Slots
pub mod Paging
