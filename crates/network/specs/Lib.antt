-- Networks (document 01, "Networks", "Checking a network"): what they are, the tests that a program makes, what its answer means,
-- and what "least" means. Assumes nothing.
pub mod Networks
pub mod Value
pub mod Check
pub mod Meaning
pub mod Least
