-- Lemmas that several proofs share, and those of the laws.
mod OccurrenceLemmas
mod Bits
mod Within
mod BoundStates
mod Images
mod States
mod Refused
