mod Examples
mod HeldLemmas
mod NumberLemmas
mod OutcomeLemmas
mod RatExamples
