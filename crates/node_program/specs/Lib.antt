-- The definitions that the contracts cite, in the order of a textbook: programs as trees, the values of
-- operations and expressions, what a node does, global rounds, and bounds of values.
pub mod Term
pub mod Limits
pub mod Operations
pub mod Value
pub mod Node
pub mod GlobalRounds
pub mod Bounds
pub mod Code
