pub mod Turns
pub mod Begun
pub mod InPieces
