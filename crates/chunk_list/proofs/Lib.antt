mod Sizes
mod Places
mod Writing
mod Putting
mod Shortening
mod Appending
