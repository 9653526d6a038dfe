-- The definitions that the contracts cite: buckets of windows, masks of channels, pairs and counts, the search at
-- distance two, and the verdicts of the judge.
pub mod Buckets
pub mod Masks
pub mod ChannelSets
pub mod PatternBits
pub mod MiddleBuckets
pub mod ChannelsBefore
pub mod PatternSearch
pub mod Pairs
pub mod Counts
pub mod FarSearch
pub mod Searches
pub mod Verdicts
pub mod ProblemVerdicts
