-- What holds of tables: reading and writing words, the test for a hypermap, walks, judging and making changes, and the
-- laws of specs/Laws.
pub mod Numbers
pub mod Reading
pub mod Holding
pub mod HalfTest
pub mod Following
pub mod Walking
pub mod Meeting
pub mod Writing
pub mod Stages
pub mod Replying
pub mod Filling
pub mod Swaps
pub mod Accepting
pub mod Commands
pub mod Putting
pub mod OnlyTables
pub mod Zeros
pub mod Opposites
pub mod Runs
