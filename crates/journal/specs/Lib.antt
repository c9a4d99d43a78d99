-- Entries, heads and checkpoints, the rule by which a journal records, and going back. Inner is of inner functions.
pub mod Entries
pub mod Heads
pub mod Journaling
pub mod Undoing
pub mod Inner
pub mod Reports
