-- Checking a refutation (document 01, "Checking a refutation"). Assumes nothing.
pub mod Refutation
