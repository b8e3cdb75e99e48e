mod Desks
mod Lines
