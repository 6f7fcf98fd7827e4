-- Theorems about the definitions of specs/, and what proofs of this crate share. Assumes nothing.
pub mod RecordLaws
