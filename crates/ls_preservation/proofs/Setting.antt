-- What the lemmas about the two runs take as given.
use Rattle.std.proofs.Common.{ℕ, ◌≤◌}
use Rattle.ls_checked.specs.CheckedTree.{File}
use Rattle.ls_checked.specs.CheckedProgram.{Program}
use Rattle.ls_code.specs.Code.{Code}
use Rattle.ls_code.specs.Limits.{most_cells}
use Rattle.ls_preservation.specs.Threads.{Asks}
use Rattle.ls_preservation.specs.Same.{IsCells}
use Rattle.ls_preservation.proofs.Meaning.{Means}

-- A file, a program of it, and code whose threads ask what the program's threads ask. What is asked is sound, and there
-- are so many cells, which a machine can have.
pub record Setting : Type 0 where
  pub file : File
  pub program : Program
  pub code : Code
  pub asks : Asks file program code
  pub sound : Means file program
  pub room : ℕ
  pub small : room ≤ most_cells

-- the setting of so many cells, which a machine can have
abbrev pub setting_of : (file : File) (program : Program) (code : Code) →
    Asks file program code →
    Means file program →
    (room : ℕ) →
    IsCells code room →
    Setting
setting_of file program code asks sound room within = record {
  file = file;
  program = program;
  code = code;
  asks = asks;
  sound = sound;
  room = room;
  small = within.most;
}
