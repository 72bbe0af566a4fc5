mod Writing
mod Rounding
