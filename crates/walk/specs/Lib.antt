pub mod View
pub mod Standing
pub mod Rules
pub mod Since
pub mod Walk
