-- What a field of a request's line may hold, and what a part of the line says alone. Assumes nothing.
pub mod Field
pub mod Part
