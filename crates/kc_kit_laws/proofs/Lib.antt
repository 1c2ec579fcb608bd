mod AlikeLemmas
mod ImageLemmas
mod KnownLemmas
mod OneAnswerLemmas
mod OutcomeLemmas
mod ReadableLemmas
mod StartLevels
mod ToldLemmas
