-- The report (document 01: "The report program reads request.txt .."): its texts, and which of them it is. Assumes nothing.
pub mod Texts
pub mod Reports
pub mod Report
