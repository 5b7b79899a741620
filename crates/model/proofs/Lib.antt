-- The proofs. Proved has every theorem; the others are its steps, and what the proofs about records and bytes cite.

-- the calls and what they store
pub mod Tests
pub mod Lists
pub mod Legal
pub mod Attribute
pub mod Running
pub mod Told
pub mod Storable
pub mod Bounded
pub mod ShapeFree
-- the tree
pub mod Steps
pub mod NewRoot
pub mod Keep
pub mod Sized
pub mod Grows
pub mod Onto
pub mod Limits
pub mod Closed
pub mod Once
-- its nodes
pub mod EachNode
pub mod Places
pub mod ByPlace
pub mod Ready
pub mod Stood
pub mod Writes
pub mod Kept
pub mod Passes
-- questions
pub mod Walk
pub mod Walked
pub mod Answers
pub mod FullSaid
pub mod Proved
