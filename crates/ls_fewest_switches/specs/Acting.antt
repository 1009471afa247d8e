-- The steps of a schedule that act.
use Rattle.std.specs.Prelude.{ℕ, List, map}
use Rattle.ls_checked.specs.CheckedTree.{File}
use Rattle.ls_checked.specs.CheckedProgram.{Program}
use Rattle.ls_meaning.specs.Runs.{source_trace}

-- the threads of the steps that act, in order
abbrev pub acting : File → Program → List ℕ → List ℕ
acting file program schedule = map (λ e. e.thread) (source_trace file program schedule)
