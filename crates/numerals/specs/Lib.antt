-- The definitions that the contracts of this crate cite: numbers in a base, and rows of them.
pub mod Numerals
-- The definition that the proofs share.
pub mod Bytes
