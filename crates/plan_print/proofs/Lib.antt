-- Lemmas that several proofs share. Other crates cite those of Tasks.
mod Left
mod OfInput
pub mod Tasks
mod Workers
