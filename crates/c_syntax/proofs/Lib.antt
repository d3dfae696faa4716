mod Lines
mod Broken
mod Spelling
mod Single
