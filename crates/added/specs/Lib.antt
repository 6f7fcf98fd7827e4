-- The literals of an added clause (document 01, "Checking a refutation"). Assumes nothing.
pub mod Record
pub mod Part
