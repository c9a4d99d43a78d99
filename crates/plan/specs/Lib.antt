-- The lines that the program writes, and what a writer with a buffer holds.
pub mod Lines
pub mod Buffers
pub mod Inner
