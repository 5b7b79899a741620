-- When record and bytes stand for the model: a tree, a history, the answers to questions, the outcomes of calls.
pub mod Represents
pub mod Run
pub mod Histories
pub mod Calls
pub mod Theorems
pub mod Readable
pub mod Mirrors
pub mod Answered
