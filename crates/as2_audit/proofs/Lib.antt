mod Audited
mod Passed
