pub mod Due
pub mod Finishes
