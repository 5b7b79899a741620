pub mod Found
pub mod Single
