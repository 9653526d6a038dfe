-- The definitions that the contracts of this crate cite: the tree of an expression with the value of
-- every part that counts, what such a tree has to show, how a place of a ring computes, and the laws of these.
pub mod Trees
pub mod Parts
pub mod Explanation
pub mod ValueTrees
pub mod ToldTrees
pub mod Rows
pub mod Trace
pub mod Laws
