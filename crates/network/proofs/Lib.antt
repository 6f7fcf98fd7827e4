-- Theorems about the definitions of specs/, and what proofs of this crate share. Assumes nothing.
pub mod CheckLaws
pub mod CheckNumbers
pub mod LeastLaws
pub mod MeaningLaws
pub mod NetworksLaws
