pub mod Numbers
pub mod Scaling
pub mod Composing
pub mod Lines
pub mod Cuts
