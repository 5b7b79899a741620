pub mod Full
pub mod Table
