mod CrewServed
mod TakenIn
