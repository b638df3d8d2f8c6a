mod AllCome
mod Hands
mod LinkComes
mod Passes
mod Places
