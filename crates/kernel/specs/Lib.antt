-- What each public call answers and leaves, of a table (Calls) and of a tape (Tapes).
pub mod Calls
pub mod Tapes
pub mod Replies
