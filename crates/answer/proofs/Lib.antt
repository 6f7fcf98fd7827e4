-- Theorems about the definitions of specs/, and what proofs of this crate share. Assumes nothing.
pub mod ReadingLaws
pub mod ReadingMeaning
pub mod ValuesLaws
pub mod ReadingNumbers
