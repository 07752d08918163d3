mod Colours
mod Examples
mod FirstQuestion
mod Followed
mod Incrementals
mod MinimalCores
mod Outcomes
mod Unrolling
