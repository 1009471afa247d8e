-- More schedules of calls that run one at a time, why a search isn't complete, and the bounds of commands.
use Rattle.std.specs.Prelude.{◌≡◌, ℕ, List, ◌++◌}
use Rattle.ls_checked.specs.CheckedTree.{File}
use Rattle.ls_checked.specs.CheckedProgram.{Program}
use Rattle.ls_serial_search.specs.Open.{HasLongCall}
use Rattle.ls_serial_search.specs.Searched.{AreActing, AreSerial}
use Rattle.ls_serial_search.specs.declared.telling.Bounds.{Bounds}
use Rattle.ls_serial_search.specs.declared.telling.Doubt.{Doubt}
use Rattle.ls_serial_search.specs.declared.telling.Doubt.TheVariants as doubts

-- some schedules are known, and then more
pub record AreMore (file : File) (program : Program) (before after : List (List ℕ)) : Type 0 where
  pub more : List (List ℕ)
  pub is : before ++ more ≡ after
  pub serial : AreSerial file program before → AreSerial file program after
  pub acts : AreActing file program before → AreActing file program after

-- why it isn't known whether a history is linearizable
abbrev pub IsDoubt : File → Program → Bounds → Doubt → Type 0
IsDoubt file program bounds doubts.LongCall = HasLongCall file program bounds.steps

-- the bounds by which commands search
abbrev pub usual : Bounds
usual = record { steps = 10000; orders = 10000 }
