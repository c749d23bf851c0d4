pub mod Decimals
pub mod Lines
pub mod Tabled
pub mod Computes
pub mod Examples
