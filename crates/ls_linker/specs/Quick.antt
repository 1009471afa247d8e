-- How long a frame of a unit is silent.
use Rattle.std.specs.Prelude.{◌≡◌, ◌≤◌, ◌<◌, ℕ, zero, suc, ◌+◌, List, length, Some, slice_get}
use Rattle.ls_code.specs.Code.{Code}
use Rattle.ls_code.specs.Thread.{Thread}
use Rattle.ls_code.specs.Steps.{Silent, thread_move}
use Rattle.ls_code.specs.Throws.{find_row}
use Rattle.ls_code.specs.declared.code.HandlerRow.{HandlerRow}
use Rattle.ls_code.specs.declared.step.Mode.TheVariants as mode
use Rattle.ls_code.specs.declared.code.Method.{Method as MethodRow}
use Rattle.ls_lowered.specs.LoweredTree.{File}
use Rattle.ls_emit.specs.Units.{CodeUnit, units_of, LieIn}

-- `n` silent steps of a running thread in a row, from the first thread to the last. No step leaves the frame. What
-- SEE, TAKE and DROP do depends on the cells, so they are no silent steps here. So a thread that waits in `lock()` is
-- silent for one step at a time, again and again.
abbrev pub InFrame : Code → ℕ → Thread → Thread → Type 0
InFrame c zero t t' = t ≡ t'
InFrame c (suc n) t t' = (t.mode ≡ mode.Running) × (s : Thread) × (thread_move c t ≡ Silent s) ×
    (length s.below ≡ length t.below) × InFrame c n s t'

-- what a code keeps of the frames of these units; each unit has the number of its method
pub record KeepsFrames (units : List CodeUnit) (c : Code) : Type 0 where
  -- each unit has its row in the table of methods
  pub there : (m : ℕ) (u : CodeUnit) →
      slice_get units m ≡ Some u →
      (row : MethodRow) × (slice_get c.methods m ≡ Some row)
  -- in one frame of a unit a thread makes fewer silent steps in a row than the unit has instructions
  pub quick : (m : ℕ) (u : CodeUnit) (row : MethodRow) → slice_get units m ≡ Some u → slice_get c.methods m ≡ Some row →
      (n : ℕ) (t t' : Thread) → row.start ≤ t.top.counter → t.top.counter < row.start + length u.instructions →
      InFrame c n t t' → n < length u.instructions
  -- a throw in a unit that the frame catches leads to a later place of the same unit
  pub rows : (m : ℕ) (u : CodeUnit) (row : MethodRow) → slice_get units m ≡ Some u → slice_get c.methods m ≡ Some row →
      (p : ℕ) → row.start ≤ p → p < row.start + length u.instructions → (r : HandlerRow) →
      find_row c.handlers p ≡ Some r →
      (row.start ≤ r.from) × (p < r.handler) × (r.handler < row.start + length u.instructions)

-- in whatever code the units of a file lie
abbrev pub FramesAreQuick : File → Type 0
FramesAreQuick file = (c : Code) (words : ℕ) → LieIn c words (units_of file) → KeepsFrames (units_of file) c
