mod Shifting
mod Indexing
mod LookUps
mod Wording
