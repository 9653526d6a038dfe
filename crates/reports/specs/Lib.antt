-- The definitions that the contracts cite: exit statuses, the numbers of a problem, findings, the codes of faults,
-- their bytes, which finding a task has, what writing one leaves, and the laws.
pub mod StatusCodes
pub mod Lines
pub mod ProblemFaults
pub mod Findings
pub mod Codes
pub mod Bytes
pub mod Report
pub mod FormulaReports
pub mod Written
pub mod Laws
