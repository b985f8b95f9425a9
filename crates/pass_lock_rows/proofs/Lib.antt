mod Own
mod Clerks
mod Closing
