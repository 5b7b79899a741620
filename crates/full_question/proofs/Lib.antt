pub mod After
pub mod Tables
pub mod Fulls
pub mod Heads
pub mod Once
pub mod Gathering
