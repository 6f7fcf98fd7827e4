-- What the program writes for an input. Assumes nothing.
pub mod Output
