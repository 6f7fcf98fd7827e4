-- What proofs of this crate share. Assumes nothing.
pub mod ClauseLaws
