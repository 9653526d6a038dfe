-- The definitions that the contracts cite: the text of a table and a separation, part by part; the forms of its lines;
-- the texts of tables; the first fault of a text; the laws; prefixes of a text; and the pieces of its lines.
pub mod TableText
pub mod LineForms
pub mod Texts
pub mod Faults
pub mod Laws
pub mod LinePrefixes
pub mod Pieces
pub mod Orders
pub mod Prefixes
pub mod Odometers
pub mod Sections
