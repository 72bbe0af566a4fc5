mod Naming
mod Requests
mod Addressed
