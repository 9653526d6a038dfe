-- Lemmas that several proofs share.
mod Agreement
