-- Theorems about the definitions of specs/, and what proofs of this crate share. Assumes nothing.
pub mod CursorLaws
pub mod BlockLaws
pub mod BlockStored
pub mod FileLaws
