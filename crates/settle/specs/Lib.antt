-- What settling says, and what "least" means. Assumes nothing.
pub mod Settle
