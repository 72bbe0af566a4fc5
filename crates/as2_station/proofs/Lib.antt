mod Acting
mod ActingIn
mod Clashing
mod Closed
mod Doing
mod Numbers
mod Bearing
pub mod ByHistory
pub mod Playing
mod Reaching
pub mod HandedIn
mod Begun
mod OwedTries
mod Resent
mod Ticked
mod NextDue
mod Viewed
