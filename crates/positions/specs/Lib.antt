pub mod Positions
pub mod Pieces
pub mod Computes
