-- What a table and a tape that are accepted satisfy.
pub mod Passing
