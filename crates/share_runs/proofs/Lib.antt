mod LineLemmas
mod PrintoutLemmas
mod StrictLemmas
