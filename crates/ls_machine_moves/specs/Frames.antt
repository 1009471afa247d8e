-- Frames with the memory that they have.
use Rattle.std.specs.Prelude.{ℕ, []}
use Rattle.ls_code.specs.Frame.{Frame}
use Rattle.ls_code.specs.Machine.{empty_frame}

-- a frame with the memory that it has: the most locals and the most operands of any frame in its place
pub record Kept : Type 0 where
  pub frame : Frame
  pub locals_room : ℕ
  pub operands_room : ℕ

-- the same memory with another frame in it
abbrev pub keeping : Kept → Frame → Kept
keeping k f = record k { frame = f }

abbrev pub empty_kept : ℕ → ℕ → ℕ → ℕ → Kept
empty_kept place need locals operands = record {
  frame = empty_frame place need;
  locals_room = locals;
  operands_room = operands;
}

abbrev pub no_frame : Kept
no_frame = record {
  frame = record { counter = 0; locals = []; operands = []; need = 0 };
  locals_room = 0;
  operands_room = 0;
}
