-- Document 01's worked examples. Assumes nothing.
pub mod Table
