-- Lemmas that several proofs share.
mod Closings
mod EntryTexts
mod Objects
mod ReadBack
mod TableParts
mod TableRead
