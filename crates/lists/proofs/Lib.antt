-- Facts that most crates cite: on tests, lists, ranges, sums, integers, and equivalences of numbers.
pub mod Bools
pub mod Lists
pub mod Indices
pub mod Sums
pub mod Integers
pub mod Relations
pub mod Ranges
pub mod Rising
pub mod Keeping
pub mod Injections
