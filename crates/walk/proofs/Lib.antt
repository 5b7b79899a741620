pub mod Room
pub mod Broken
pub mod Entries
pub mod Ways
pub mod Walks
pub mod Turns
pub mod Admitted
