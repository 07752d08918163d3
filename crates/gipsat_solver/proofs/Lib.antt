mod AnswerLemmas
mod Examples
