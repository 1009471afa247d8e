-- When no code is built of a checked file and a program, and what holds if code is built.
use Rattle.ls_code.specs.Limits.{most_instructions}
use Rattle.std.specs.Prelude.{◌<◌, ◌≤◌, length}
use Rattle.ls_checked.specs.CheckedTree.{File}
use Rattle.ls_checked.specs.CheckedProgram.{Program}
use Rattle.ls_lowered.specs.declared.fault.LowerFault.TheVariants as lower
use Rattle.ls_refs.specs.Lowered.{lowered_file}
use Rattle.ls_refs.specs.Refused.{AllFit}
use Rattle.ls_finally.specs.Counts.{FewCopies}
use Rattle.ls_emit.specs.Short.{AllShort}
use Rattle.ls_emit.specs.declared.fault.EmitFault.TheVariants as emit
use Rattle.ls_linker.specs.declared.fault.LinkFault.TheVariants as link
use Rattle.ls_linker.specs.declared.fault.BuildFault.{BuildFault}
use Rattle.ls_linker.specs.declared.fault.BuildFault.TheVariants.{Lower, Emit, Link}
use Rattle.ls_linker.specs.Compiled.{flat_of, code_of, count}

-- Each limit of the code is kept. No method has over 128 locals, over 4,096 copies of finally blocks or over 65,536
-- instructions. The whole code has at most 65,536 instructions.
pub record KeepsLimits (file : File) (program : Program) : Type 0 where
  pub locals : AllFit file.methods
  pub copies : FewCopies (lowered_file file)
  pub short : AllShort (flat_of file)
  pub whole : length (code_of file program).instructions ≤ most_instructions

-- A fault names the first limit that isn't kept: locals, then copies, then the instructions of a method, then those of
-- the whole code. If the count is at most 4,096, no code is too long. "Out of memory" says nothing.
abbrev pub GoesPast : File → Program → BuildFault → Type 0
GoesPast file program (Lower lower.Memory) = Unit {0}
GoesPast file program (Lower lower.TooManyLocals) = ¬ AllFit file.methods
GoesPast file program (Lower lower.TooManyCopies) = AllFit file.methods × ¬ FewCopies (lowered_file file)
GoesPast file program (Emit emit.Memory) = Unit {0}
GoesPast file program (Emit emit.CodeTooLong) = AllFit file.methods × FewCopies (lowered_file file) ×
    ¬ AllShort (flat_of file) × 4096 < count file program
GoesPast file program (Link link.Memory) = Unit {0}
GoesPast file program (Link link.CodeTooLong) =
    AllFit file.methods × FewCopies (lowered_file file) × AllShort (flat_of file) ×
    most_instructions < length (code_of file program).instructions × 4096 < count file program
