-- Why `play_along` in src/playing.rt keeps its loop.
use Rattle.std.proofs.Common.{subst}
use Rattle.std.specs.Prelude.{IfSome}
use Rattle.ls_checked.specs.CheckedTree.{File}
use Rattle.ls_checked.specs.CheckedProgram.{Program}
use Rattle.ls_checked.specs.Plain.{plain_file}
use Rattle.ls_checked.specs.PlainProgram.{plain_program}
use Rattle.ls_races.specs.declared.playing.Played.{Played}
use Rattle.ls_races.specs.Sought.{IsPlayed}
use Rattle.ls_races.proofs.playing.play_along.Goals as goal

pub loop-edge-preserved : goal.loop-edge-preserved
loop-edge-preserved c =
    subst (λ o. IfSome o (λ (after : Played). (file : File) (program : Program) →
    IsPlayed file program c.loop-edge.played → IsPlayed file program after)) c.in-Some.is c.in_ok-play_edge.ensures
    (plain_file c.args.file.now) (plain_program c.args.program.now) c.loop-edge.invariant
