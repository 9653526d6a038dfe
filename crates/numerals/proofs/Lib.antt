-- Lemmas that several proofs share. Other crates cite those of NumbersInTexts.
mod Digits
mod FirstByte
mod NumberTexts
mod Options
pub mod NumbersInTexts
