-- The canonical tape of a table and the bytes of the screen. Laws are what is proved of them; Inner is of inner
-- functions.
pub mod Canonical
pub mod Screens
pub mod Inner
pub mod Laws
