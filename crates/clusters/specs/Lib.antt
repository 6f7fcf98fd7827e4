-- Chains of true X, the labels that they give, and what holds while they are searched (document 02, U3). Assumes nothing.
pub mod Chain
pub mod Search
