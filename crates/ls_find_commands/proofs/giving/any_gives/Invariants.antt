-- What the loop `call` of `any_gives` in src/giving.rt keeps.

use Rattle.std.proofs.Common.{◌≡◌, drop, map}
use Rattle.std.specs.List.{list_any}
use Rattle.ls_checked.specs.Plain.{plain_file}
use Rattle.ls_checked.specs.PlainProgram.{plain_call}
use Rattle.ls_find_commands.specs.Giving.{call_gives}
use Rattle.ls_find_commands.proofs.giving.any_gives.Given as goal

abbrev pub invariant-loop-call : goal.invariant-loop-call
invariant-loop-call l =
    list_any (call_gives (plain_file l.file)) (map plain_call (drop l.call-index l.calls)) ≡
    list_any (call_gives (plain_file l.file)) (map plain_call l.calls)
