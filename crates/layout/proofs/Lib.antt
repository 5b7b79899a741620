pub mod Parts
pub mod Back
pub mod Encoded
pub mod Nodes
pub mod Read
