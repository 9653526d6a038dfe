-- The definitions that the contracts cite.
pub mod Headline
pub mod Laws
