-- What a tape needs of a table: capacity, commands, most darts, changes. Laws are what is proved of them; Inner is of
-- inner functions.
pub mod Amounts
pub mod Replies
pub mod Laws
pub mod Inner
