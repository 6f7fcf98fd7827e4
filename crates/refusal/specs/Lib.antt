-- Refusals by their number, and the result of an operation that may refuse. Assumes nothing.
pub mod Refusal
