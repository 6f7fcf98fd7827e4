-- What the program writes for three files. Assumes nothing.
pub mod Output
