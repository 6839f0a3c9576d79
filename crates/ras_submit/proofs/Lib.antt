mod Progress
mod Certain
