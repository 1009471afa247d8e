pub mod ChosenLemmas
