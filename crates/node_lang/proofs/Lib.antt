-- Lemmas that several proofs share. Other crates cite those of Texts.
mod Numbers
mod Spans
mod Writing
mod SmallTokens
mod Parsing
mod PrintedTokens
mod Rest
mod Cursors
mod Marks
mod Expecting
mod Judging
pub mod Texts
