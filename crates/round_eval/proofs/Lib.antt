-- Lemmas that several proofs share.
mod RowLemmas
mod GlobalRounds
mod Configurations
mod Lines
mod Within
mod AroundPlaces
