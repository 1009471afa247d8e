-- The limits of the language that a checked file and a thread program keep.
use Rattle.std.specs.Prelude.{◌≡◌, ◌≤◌, ◌*◌, ℕ, suc, length, Some, slice_get}
use Rattle.ls_checked.specs.Limits.{most_threads, most_calls}
use Rattle.ls_checked.specs.CheckedProgram.{ThreadProgram, Program}
use Rattle.ls_checked.specs.CheckedTree.{Class, File}

-- at most 64 classes, 64 fields a class and 512 methods
pub record IsRanged (file : File) : Type 0 where
  pub classes : length file.classes ≤ 64
  pub fields : (n : ℕ) (c : Class) → slice_get file.classes n ≡ Some c → length c.fields ≤ 64
  pub methods : length file.methods ≤ 512

-- at most `most_threads` threads beside the setup; at most `most_calls` calls of each; no more names than calls
pub record IsRangedProgram (program : Program) : Type 0 where
  pub threads : length program.threads ≤ suc most_threads
  pub calls : (n : ℕ) (t : ThreadProgram) → slice_get program.threads n ≡ Some t → length t.calls ≤ most_calls
  pub names : length program.names ≤ suc most_threads * most_calls
