pub mod Promises
pub mod Digits
pub mod Fields
pub mod Written
pub mod Tables
pub mod WholeFiles
