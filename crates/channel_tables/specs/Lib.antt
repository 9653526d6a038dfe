-- Tables and their channels at windows; separations, proper tables, searches for bad tuples, witnesses, and the laws.
pub mod Tables
pub mod Apart
pub mod Proper
pub mod Searches
pub mod Witnesses
pub mod Laws
