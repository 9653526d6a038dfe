-- How many identifiers the tables of two problems can have.
pub mod Laws
