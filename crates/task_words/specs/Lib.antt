-- The definitions that the contracts cite: numbers, ring texts and pattern texts, numbers of workers and segments,
-- tasks, the command line, the values of its options, the form of the report and what is demanded, the tasks of
-- words, faults of words, the commands and the rows of the tables, words that were probably meant, and what the
-- process gets.
pub mod Decimal
pub mod RingText
pub mod PatternText
pub mod Counts
pub mod Task
pub mod CommandLine
pub mod OptionLines
pub mod Formats
pub mod Words
pub mod Options
pub mod DemandValues
pub mod WordsFault
pub mod Rows
pub mod OptionWords
pub mod RingTips
pub mod PatternTips
pub mod Mended
pub mod ParsedWords
