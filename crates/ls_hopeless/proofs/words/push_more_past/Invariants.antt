-- What the loop `event` of `push_more_past` in src/words.rt keeps.

use Rattle.std.proofs.Common.{◌≡◌, ◌++◌, drop, string_bytes}
use Rattle.std.specs.List.{flat_map}
use Rattle.ls_checked.specs.PlainProgram.{plain_program}
use Rattle.ls_hopeless.specs.Words.{and_past}
use Rattle.ls_hopeless.proofs.words.push_more_past.Given as goal

abbrev pub invariant-loop-event : goal.invariant-loop-event
invariant-loop-event l =
    string_bytes l.out ++ flat_map (and_past (plain_program l.program)) (drop l.event-index l.ends) ≡
    string_bytes l.fn.out ++ flat_map (and_past (plain_program l.program)) l.ends
