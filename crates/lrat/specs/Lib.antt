-- The rules of a refutation's lines (document 01, "Checking a refutation"), over any clauses. Assumes nothing.
pub mod Rules
pub mod Words
pub mod Bytes
pub mod State
pub mod Check
pub mod Outcome
pub mod Results
