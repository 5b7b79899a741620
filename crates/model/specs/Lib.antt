-- The history as mathematics, to be read in this order.
pub mod State
pub mod Transient
pub mod Build
pub mod Nodes
pub mod Questions
pub mod Refusals
pub mod Invariant
pub mod Rules
pub mod Theorems
pub mod Examples
