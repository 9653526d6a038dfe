-- Lemmas that several proofs share.
mod Roots
mod Rows
mod Shown
mod ToldTrees
mod TraceLines
mod PartLines
