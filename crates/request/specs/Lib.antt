-- Requests (document 01, "Request and rows", "Reading a request"): as numbers and as a line of text. Assumes nothing.
pub mod Numbers
pub mod Line
