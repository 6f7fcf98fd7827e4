-- What several proofs of this crate use. Assumes nothing.
pub mod Filled
