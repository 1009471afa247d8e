-- What the loop `call` of `any_answers` in src/silent.rt keeps.

use Rattle.std.proofs.Common.{◌≡◌, drop, map}
use Rattle.std.specs.List.{list_any}
use Rattle.ls_checked.specs.PlainProgram.{plain_call}
use Rattle.ls_find_commands.specs.Silent.{answers_value}
use Rattle.ls_find_commands.proofs.silent.any_answers.Given as goal

abbrev pub invariant-loop-call : goal.invariant-loop-call
invariant-loop-call l =
    list_any answers_value (map plain_call (drop l.call-index l.calls)) ≡
    list_any answers_value (map plain_call l.calls)
