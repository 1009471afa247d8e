-- A wrong image of the example of ls_preservation: its setup makes 30 jumps before its first call.
use Rattle.std.specs.Prelude.{ℕ, zero, suc, ◌+◌, List, [], ◌∷◌, ◌++◌}
use Rattle.ls_code.specs.Code.{Code, Start}
use Rattle.ls_code.specs.declared.code.CallResult.TheVariants.{Nothing}
use Rattle.ls_code.specs.declared.instruction.Instruction.{Instruction}
use Rattle.ls_code.specs.declared.instruction.Instruction.TheVariants as op
use Rattle.ls_preservation.specs.Example as right

-- `n` jumps from this place on, each to the next place
abbrev pub jumps : ℕ → ℕ → List Instruction
jumps zero place = []
jumps (suc n) place = op.Jump (place + 1) ∷ jumps n (place + 1)

-- the last jump leads to the setup's first call
abbrev pub start : Start
start = record { place = 22; need = 2; calls = Nothing ∷ [] }

abbrev pub idles : Code
idles = record right.code {
  instructions = right.code.instructions ++ jumps 29 22 ++ op.Jump 0 ∷ [];
  starts = start ∷ record { place = 7; need = 1; calls = Nothing ∷ [] } ∷ [];
}
