pub mod Values
pub mod Changes
pub mod Table
pub mod Sound
pub mod Decisions
