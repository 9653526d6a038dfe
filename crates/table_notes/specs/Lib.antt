-- The definitions that the contracts cite.
pub mod RingNotes
pub mod VerdictNotes
pub mod TableNotes
pub mod PatternNotes
