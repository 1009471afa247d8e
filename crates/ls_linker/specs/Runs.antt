-- What the code of a file and a program promises about its runs.
use Rattle.ls_code.specs.Limits.{most_instructions}
use Rattle.std.specs.Prelude.{◌*◌, ◌≤◌, length}
use Rattle.ls_checked.specs.CheckedTree.{File}
use Rattle.ls_checked.specs.CheckedProgram.{Program}
use Rattle.ls_code.specs.Code.{Code}
use Rattle.ls_preservation.specs.Same.{Same}
use Rattle.ls_preservation.specs.Threads.{Asks}
use Rattle.ls_preservation.specs.ByWords.{AsksByWords}
use Rattle.ls_preservation.specs.InTime.{EndsInTime}
use Rattle.ls_preservation.specs.Acting.{ActsInTime}
use Rattle.ls_emit.specs.Units.{units_of}
use Rattle.ls_linker.specs.Quick.{KeepsFrames}
use Rattle.ls_linker.specs.Own.{ThreadsAreQuick}
use Rattle.ls_linker.specs.Compiled.{flat_of, count}

pub record Runs (file : File) (program : Program) (code : Code) : Type 0 where
  -- For each number of cells: each schedule of instructions has a schedule of source steps with the same trace and
  -- history. Each schedule of source steps that fits has a schedule of instructions.
  pub same : Same file program code
  -- If a thread gets answers in kind, it asks what the source asks next, and ends as the source ends. It is never
  -- stuck, nor silent for too long.
  pub asks : Asks file program code
  -- The same holds by its own instructions, if the thread gets the words of locks and the outcomes of exchanges that
  -- give these answers.
  pub words : AsksByWords file program code
  -- In the machine, if the source of a thread acts next, the thread acts in time; if the source has ended, the thread
  -- ends in time.
  pub acts : ActsInTime file program code
  pub ends : EndsInTime file program code
  -- In one frame of a method a thread makes fewer silent steps in a row than the method has instructions.
  pub frames : KeepsFrames (units_of (flat_of file)) code
  -- In its own code a thread makes at most three more than the most values that a call passes.
  pub threads : ThreadsAreQuick file program code
  -- The code has at most 65,536 instructions, and at most 16 for each thing that is counted.
  pub short : length code.instructions ≤ most_instructions
  pub lean : length code.instructions ≤ 16 * count file program
