pub mod Calls
pub mod Plays
pub mod Zeros
