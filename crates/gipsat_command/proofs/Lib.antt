mod Checked
mod Examples
mod Sources
