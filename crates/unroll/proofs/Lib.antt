-- Lemmas that several proofs share. Other crates cite those of KnownBlocks.
mod Known
mod SameBucket
mod NextBuckets
mod ColumnStates
mod IgnoredRight
mod SeriesStates
mod Fronts
mod ItemLemmas
mod CodeLemmas
mod Writes
pub mod KnownBlocks
