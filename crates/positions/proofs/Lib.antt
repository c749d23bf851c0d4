pub mod Counting
pub mod Growing
pub mod Entries
pub mod Promises
pub mod Missing
