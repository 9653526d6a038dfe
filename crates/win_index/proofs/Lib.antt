-- Lemmas that several proofs share. Other crates cite those of Windows.
mod Kept
mod Finding
mod Unused
mod Pieces
mod Numbers
mod Order
mod Positions
mod Successors
mod Sizes
mod Writing
mod Levels
mod BucketStarts
mod FrontPlaces
mod SeriesPlaces
mod BucketPrefixNumbers
mod BucketPrefixSteps
mod Arcs
mod Tuples
mod JobPlaces
mod JobNumbers
mod OneFault
pub mod Windows
