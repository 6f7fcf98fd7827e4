-- The clauses of a request against networks: satisfiable exactly when some network of r switches does the job; and the least
-- number of switches. Assumes nothing.
pub mod Stands
pub mod OnRow
pub mod OffRow
pub mod Values
pub mod Encoding
pub mod Grow
