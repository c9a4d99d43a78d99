-- Words of entries, checkpoints, recorded changes and runs, and going back entry by entry.
pub mod Room
pub mod EntryWords
pub mod Checkpoints
pub mod CheckpointReads
pub mod Dropping
pub mod Additions
pub mod CutEntries
pub mod Running
pub mod Undoings
pub mod ComingBack
