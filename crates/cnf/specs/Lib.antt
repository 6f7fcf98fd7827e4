-- Clauses over numbered variables (document 01, "Clauses, in order": what satisfiable means). Assumes nothing.
pub mod Cnf
