mod Lengths
mod Renamed
