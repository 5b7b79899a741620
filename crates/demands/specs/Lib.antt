-- Runs of calls, the examples, and the three demands.
pub mod Runs
pub mod Examples
pub mod Tests
pub mod Sequences
pub mod Demands
pub mod Feeds
