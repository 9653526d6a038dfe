-- Lemmas that several proofs share.
mod FillViews
mod KnownSources
mod FillKeeps
mod OneRuns
