-- States of a program between calls that run one at a time.
use Rattle.std.specs.Prelude.{◌≡◌, ◌≤◌, ℕ, List, length}
use Rattle.ls_checked.specs.CheckedTree.{File}
use Rattle.ls_checked.specs.CheckedProgram.{Program}
use Rattle.ls_automaton.specs.declared.states.States.{States}
use Rattle.ls_automaton.specs.Fates.{AreStates}
use Rattle.ls_automaton.specs.Spots.{schedules_of}
use Rattle.ls_automaton.specs.Tables.{AreOutcomes}

-- steps that lead to each state
abbrev pub ways_of : States → List (List ℕ)
ways_of s = schedules_of s.spots.list.items

abbrev pub AreStatesOf : File → Program → ℕ → States → Type 0
AreStatesOf file program bound s = AreStates file program bound (ways_of s) s.fates.items

-- Each call leads from a state to a state. All states have their fates.
pub record HaveOutcomes (file : File) (program : Program) (bound : ℕ) (s : States) : Type 0 where
  pub outcomes : AreOutcomes file program bound s.goes_on s.rows.items
  pub ways : outcomes.spots ≡ ways_of s
  pub all : length (ways_of s) ≤ length s.fates.items
