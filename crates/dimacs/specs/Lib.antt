-- The clause file (document 01, "The file is ..", "Size of file", "Writing the file"), and what writing it says beyond its bytes.
-- Assumes nothing.
pub mod Block
pub mod Cursor
pub mod File
pub mod Means
