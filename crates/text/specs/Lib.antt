-- Numbers, literals and clauses as text (document 01: the lines of the file). Assumes nothing.
pub mod Decimal
pub mod Text
