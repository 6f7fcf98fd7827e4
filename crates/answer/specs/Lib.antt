-- Reading an answer (document 01, "Reading an answer"). Assumes nothing.
pub mod Lines
pub mod Values
pub mod Decode
pub mod Reading
