-- Theorems about the definitions of specs/, and what proofs of this crate share. Assumes nothing.
pub mod ClauseLaws
pub mod CountLaws
pub mod FormulaOffRow
pub mod FormulaOnRow
pub mod FormulaRange
pub mod FormulaRows
pub mod NumberLaws
