-- The copied pairs of a ring, and that a ring too long is answered like an empty one.
pub mod Calls
pub mod Words
