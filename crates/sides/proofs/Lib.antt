pub mod Puts
pub mod Placing
pub mod Leaves
pub mod Bounds
pub mod Showing
