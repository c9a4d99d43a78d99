-- Writing a canonical tape in two passes, the screen, and the proof that a canonical tape builds its table and no
-- other.
pub mod Laying
pub mod Passing
pub mod OrbitJoins
pub mod Sizes
pub mod WholeTape
pub mod Screening
pub mod EmptyTable
pub mod ReadBack
pub mod Putting
pub mod Cycles
pub mod JoinSteps
pub mod Rejoining
pub mod Building
