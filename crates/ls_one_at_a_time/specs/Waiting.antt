-- No thread waits where none acts (as in `ls_endless_calls`, where the law is that then no call waits for ever).
use Rattle.std.specs.Prelude.{◌≡◌, ℕ, List}
use Rattle.ls_checked.specs.CheckedTree.{File}
use Rattle.ls_checked.specs.CheckedProgram.{Program}
use Rattle.ls_meaning.specs.declared.step.Did.TheVariants as did
use Rattle.ls_meaning.specs.Runs.{source_run, step}
use Rattle.ls_meaning.specs.Still.{IsOver}

-- where no thread acts, none waits for a lock
abbrev pub NoThreadWaits : File → Program → Type 0
NoThreadWaits file program =
    (schedule : List ℕ) → IsOver file program (source_run file program schedule) →
    (t : ℕ) → (step file program (source_run file program schedule) t).did ≡ did.Waits → ⊥
