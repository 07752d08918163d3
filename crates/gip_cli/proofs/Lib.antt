mod Behind
mod Examples
mod Telling
mod Taken
