-- Lemmas that several proofs share.
mod Neighbours
mod Updates
mod Fits
mod OneRuns
mod Views
mod Enabled
mod Moves
mod Opening
mod Events
mod Readings
mod Runs
