pub mod Refusals
pub mod Levels
pub mod Sound
pub mod Moves
pub mod Firm
