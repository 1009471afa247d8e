-- Whether the copies of finally blocks are few enough.
use Rattle.std.specs.Prelude.{ℕ, ◌<◌, ◌≤◌, Result, Ok, Err}
use Rattle.ls_lowered.specs.declared.fault.LowerFault.{LowerFault}
use Rattle.ls_lowered.specs.declared.fault.LowerFault.TheVariants.{Memory, TooManyLocals, TooManyCopies}

-- a statement that makes n copies with those before it is refused: it has too many, or memory ran out
abbrev pub TooMany : LowerFault → ℕ → Type 0
TooMany Memory n = Unit {0}
TooMany TooManyLocals n = ⊥
TooMany TooManyCopies n = 4096 < n

-- n copies are few enough, or refused
abbrev pub Fits : {X : Type 0} → Result X LowerFault → ℕ → Type 0
Fits (Ok x) n = n ≤ 4096
Fits (Err e) n = TooMany e n
