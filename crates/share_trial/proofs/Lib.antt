mod Sharings
mod Outputs
mod Lines
