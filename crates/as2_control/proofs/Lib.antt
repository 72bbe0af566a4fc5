mod Beginnings
mod Bodies
mod Lengths
mod Messages
mod Sequences
mod Texts
