-- The definitions that the contracts cite.
pub mod ByteSets
pub mod Lines
pub mod Heads
pub mod Shown
pub mod Lists
pub mod Kinds
pub mod KindAdvice
