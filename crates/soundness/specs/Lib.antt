-- Which tables and tapes a public call accepts, and the refusals 1 and 2 of others.
pub mod Soundness
