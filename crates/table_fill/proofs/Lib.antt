-- Lemmas that several proofs share.
mod Programs
mod JoinedEntries
mod SharedFill
mod Unknown
