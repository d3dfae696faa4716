mod Classing
mod Places
mod Predictive
