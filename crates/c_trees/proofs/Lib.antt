mod Looping
mod Choosing
mod Short
mod Complete
