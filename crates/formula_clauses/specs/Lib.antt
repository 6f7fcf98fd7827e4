-- The clauses of a request in blocks, and the clause store (document 01, "The clause store", "Storing clauses"). Assumes nothing.
pub mod Bounds
pub mod Word
pub mod Block
pub mod Store
