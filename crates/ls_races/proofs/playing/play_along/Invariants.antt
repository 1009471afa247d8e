-- What the loop `edge` of `play_along` in src/playing.rt keeps.
use Rattle.ls_checked.specs.Plain.{plain_file}
use Rattle.ls_checked.specs.PlainProgram.{plain_program}
use Rattle.ls_races.specs.Sought.{IsPlayed}
use Rattle.ls_races.proofs.playing.play_along.Given as goal

abbrev pub invariant-loop-edge : goal.invariant-loop-edge
invariant-loop-edge l = IsPlayed (plain_file l.file) (plain_program l.program) l.played
