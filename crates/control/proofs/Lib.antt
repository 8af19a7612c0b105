mod Writing
mod Counts
mod Orders
mod Reloads
