pub mod Outcome
pub mod Open
pub mod Change
pub mod Parts
pub mod Add
pub mod Finish
pub mod Exactly
