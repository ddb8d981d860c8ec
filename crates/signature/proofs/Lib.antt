pub mod Grids
pub mod Positions
pub mod Accepting
pub mod Sides
pub mod Apart
pub mod Standing
