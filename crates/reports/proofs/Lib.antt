-- Theorems about the definitions of specs/, and what proofs of this crate share. Assumes nothing.
pub mod ReportLaws
pub mod ReportLeast
pub mod ReportSays
