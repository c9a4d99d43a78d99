-- Numbers in decimal, the lines of a report, and the lines of a run command by command.
pub mod Numerals
pub mod Lines
pub mod Taking
pub mod Writing
