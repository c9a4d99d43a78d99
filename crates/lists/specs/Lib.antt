-- Definitions on lists: tests of all and of any element, members, ranges, what is kept, sums.
pub mod Lists
