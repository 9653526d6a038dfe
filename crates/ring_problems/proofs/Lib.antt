-- Lemmas on problems. Other crates cite those of Problems.
mod Matching
mod TupleParts
mod Arounds
mod Suffices
mod Thirds
mod PairSteps
mod Members
mod Separations
pub mod Problems
