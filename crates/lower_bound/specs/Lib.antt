-- Linial's lower bound.
pub mod Towers
pub mod Laws
