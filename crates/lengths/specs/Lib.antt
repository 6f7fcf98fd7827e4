-- How long the lines of a request's clauses are in the clause file, and the sums by which that is worked out. Assumes nothing.
pub mod Lines
pub mod Length
