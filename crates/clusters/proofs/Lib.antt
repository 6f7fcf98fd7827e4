-- Theorems about the definitions of specs/, and what proofs of this crate share. Assumes nothing.
pub mod ChainLaws
pub mod ChainNets
pub mod SearchLaws
