-- Problems as forbidden patterns of channels, tables that solve them, the witness of a table that does not, and the
-- laws.
pub mod Patterns
pub mod TupleLists
pub mod Problems
pub mod WitnessPlaces
pub mod Witnesses
pub mod Separations
pub mod Known
pub mod Demands
pub mod Idle
pub mod PatternTexts
pub mod Pairs
pub mod Laws
