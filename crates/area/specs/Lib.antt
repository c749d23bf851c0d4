pub mod Fields
pub mod Sections
pub mod Listing
pub mod LentList
pub mod Views
pub mod Fates
