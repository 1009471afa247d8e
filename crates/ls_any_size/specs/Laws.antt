-- Calm programs are good for what is looked for, but for sets.
use Rattle.std.specs.Prelude.{◌≡◌, None, true, false}
use Rattle.ls_checked.specs.CheckedTree.{File}
use Rattle.ls_checked.specs.CheckedProgram.{Program}
use Rattle.ls_find.specs.Sought.{IsGoodFor}
use Rattle.ls_find.specs.declared.sought.Sought.{Sought}
use Rattle.ls_guarded.specs.Guards.{IsCalm}
use Rattle.ls_loopless.specs.Loops.{HasNoLoops}

-- a calm program is good for what is looked for, if histories of a set aren't, and turning isn't or no body has a loop
abbrev pub CalmIsGood : Type 0
CalmIsGood =
    (sought : Sought) (file : File) (program : Program) → (sought.turning ≡ true → HasNoLoops file) →
    sought.set ≡ false → IsCalm file program → IsGoodFor sought None file program
