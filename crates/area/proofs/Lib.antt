pub mod Puts
pub mod SectionsKept
pub mod Parts
pub mod VarsWritten
pub mod Listings
pub mod HandedOut
