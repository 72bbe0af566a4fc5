mod Reached
mod Earlier
mod Pieced
