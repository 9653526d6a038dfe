-- The definitions that the contracts cite: JSON values and their texts, what is appended to a writer, findings as
-- JSON, the parts of a table's text, and reports.
pub mod Values
pub mod Puts
pub mod Json
pub mod TableTexts
pub mod Reports
