-- Steps that act, and states in which no thread acts.
use Rattle.std.specs.Prelude.{ℕ, Bool, true, false}
use Rattle.ls_checked.specs.CheckedTree.{File}
use Rattle.ls_checked.specs.CheckedProgram.{Program}
use Rattle.ls_meaning.specs.declared.step.Did.{Did}
use Rattle.ls_meaning.specs.declared.step.Did.TheVariants as did
use Rattle.ls_meaning.specs.Runs.{State, step}

-- whether a step acted
abbrev pub has_acted : Did → Bool
has_acted (did.Acted action answer) = true
has_acted did.Waits = false
has_acted did.Idle = false

abbrev pub IsActing : Did → Type 0
IsActing (did.Acted action answer) = Unit {0}
IsActing did.Waits = ⊥
IsActing did.Idle = ⊥

abbrev pub IsStill : Did → Type 0
IsStill (did.Acted action answer) = ⊥
IsStill did.Waits = Unit {0}
IsStill did.Idle = Unit {0}

-- no thread acts: each has ended, is trapped, hasn't started or waits for a lock
abbrev pub IsOver : File → Program → State → Type 0
IsOver file program s = (t : ℕ) → IsStill (step file program s t).did
