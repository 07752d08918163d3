-- Worked examples.
mod Examples
