pub mod Moves
pub mod Write
pub mod Trial
pub mod Feasible
pub mod Carried
