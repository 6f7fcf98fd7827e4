-- Theorems about what the program writes. Assumes nothing.
pub mod OutputLaws
