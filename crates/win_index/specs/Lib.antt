-- The definitions that the contracts cite: windows in order and their numbers, how many there are, the window after a
-- window, buckets of windows, which numbers make a shape, blocks of windows and jobs, rings, the windows at their
-- places, what is wrong first with a shape or a ring, and the statements of the laws.
pub mod Windows
pub mod Falling
pub mod Lexicographic
pub mod Successor
pub mod Buckets
pub mod BucketPrefixes
pub mod ShapeRange
pub mod Blocks
pub mod Jobs
pub mod Ring
pub mod Arcs
pub mod ShapeFaults
pub mod RingFaults
pub mod Laws
