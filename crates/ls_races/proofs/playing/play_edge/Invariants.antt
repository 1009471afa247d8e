-- What the loop of `play_edge` in src/playing.rt keeps.
use Rattle.ls_checked.specs.CheckedTree.{File}
use Rattle.ls_checked.specs.CheckedProgram.{Program}
use Rattle.ls_races.specs.Sought.{IsPlayed}
use Rattle.ls_races.proofs.playing.play_edge.Given as goal

abbrev pub invariant-loop : goal.invariant-loop
invariant-loop l =
    (file : File) (program : Program) → IsPlayed file program l.fn.played → IsPlayed file program l.played
