mod Answered
mod Ended
mod Examples
mod Listed
mod Plans
mod Texts
