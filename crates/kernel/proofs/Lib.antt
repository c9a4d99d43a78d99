-- How a public call's answer follows from its stages.
pub mod Answering
pub mod Judging
pub mod Tapes
pub mod Opening
