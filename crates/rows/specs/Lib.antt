-- Rows (document 01, "Request and rows"; document 02, U1): of what kind each is, how many are set in a number, and the value of a literal on
-- one. Assumes nothing.
pub mod Rows
