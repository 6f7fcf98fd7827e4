-- General definitions and laws, each once: Bool tests, facts found by computation, lists by index, lists in blocks, sums, a list
-- written into another, literals as signed numbers, and arrays made by closures. Assumes nothing.
pub mod Tests
pub mod Finite
pub mod Lists
pub mod Blocks
pub mod Written
pub mod Signed
pub mod Sums
pub mod Arrays
