mod Declaring
mod Calling
mod Sounding
mod Planning
