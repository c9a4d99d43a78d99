-- A ring lent as records, and its words.
pub mod Records
