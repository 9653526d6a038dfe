-- The statements of the laws.
pub mod Laws
