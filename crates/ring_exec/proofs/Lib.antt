-- What the proof of the recursion over the segments is made of.
mod Steps
mod Falling
mod FactRows
