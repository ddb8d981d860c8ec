pub mod Rooms
pub mod Printing
