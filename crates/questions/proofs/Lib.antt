pub mod Finds
pub mod Finding
pub mod Singles
