-- What the contracts of table speak of: the limits, the refusals, how words lie in a table, and each change. Laws are
-- what is proved of them; Inner is of inner functions.
pub mod Limits
pub mod Refusals
pub mod Layout
pub mod Commands
pub mod Runs
pub mod Laws
pub mod Inner
pub mod Replies
