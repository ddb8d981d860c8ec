pub mod Words
pub mod Spelled
pub mod Sheets
pub mod Walk
pub mod Folding
pub mod Signatures
pub mod Shown
pub mod Worked
