pub mod Room
pub mod Runs
pub mod Facts
pub mod Effects
pub mod Kept
pub mod Said
