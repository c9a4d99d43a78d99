-- Counting a tape command by command, and that what is counted is needed and suffices.
pub mod Greatest
pub mod Capacities
pub mod Peaks
pub mod Differences
pub mod ChangedWords
pub mod TapeRings
pub mod Tallies
