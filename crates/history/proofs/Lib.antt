pub mod Records
pub mod Entries
pub mod Sentences
pub mod AsCalls
pub mod Printing
