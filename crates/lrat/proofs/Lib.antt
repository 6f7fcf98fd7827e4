-- Theorems about the definitions of specs/, and what proofs of this crate share. Assumes nothing.
pub mod BytesScan
pub mod CheckLaws
pub mod CheckSound
pub mod OutcomeLaws
pub mod Rising
pub mod RulesSound
pub mod StateAdded
pub mod StateLaws
