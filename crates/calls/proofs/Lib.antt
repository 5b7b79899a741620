pub mod Refused
pub mod Openings
pub mod Changes
pub mod Additions
pub mod Exactly
pub mod Kept
