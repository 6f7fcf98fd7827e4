-- What the entries for a host answer, and a network as bytes. Assumes nothing.
pub mod Bytes
pub mod Entries
