-- The clauses of a request (document 01, "Variables, from 1", "Clauses, in order"). Assumes nothing.
pub mod Formula
pub mod Clause
pub mod Pairs
pub mod Values
pub mod Count
pub mod Number
