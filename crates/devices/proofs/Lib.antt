-- Lemmas that several proofs share. Other crates cite those of Writing.
mod Known
mod WrittenChunks
pub mod Writing
