-- What the loop `exit` of `all_ways` in src/replace.rt keeps.

use Rattle.std.proofs.Common.{◌≡◌, ◌+◌, drop}
use Rattle.ls_lowered.specs.Plain.{plain_statement, in_front}
use Rattle.ls_finally_exits.specs.Exits.{ways}
use Rattle.ls_finally_copies.specs.Ways.{first_ways}
use Rattle.ls_finally_exits.specs.PlainExits.{plain_exits}
use Rattle.ls_finally_exits.proofs.replace.all_ways.Given as goal

abbrev pub invariant-loop-exit : goal.invariant-loop-exit
invariant-loop-exit l =
    in_front l.out.items (ways (l.free + 1) (plain_statement l.finally) (plain_exits (drop l.exit-index l.found)))
    ≡ first_ways l.free (plain_statement l.finally) (ways (l.free + 1) (plain_statement l.finally)
    (plain_exits l.found))
