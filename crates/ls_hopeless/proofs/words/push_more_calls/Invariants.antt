-- What the loop `call` of `push_more_calls` in src/words.rt keeps.

use Rattle.std.proofs.Common.{◌≡◌, ◌++◌, drop, string_bytes}
use Rattle.std.specs.List.{flat_map}
use Rattle.ls_checked.specs.PlainProgram.{plain_program}
use Rattle.ls_hopeless.specs.Words.{and_call}
use Rattle.ls_hopeless.proofs.words.push_more_calls.Given as goal

abbrev pub invariant-loop-call : goal.invariant-loop-call
invariant-loop-call l =
    string_bytes l.out ++ flat_map (and_call (plain_program l.program)) (drop l.call-index l.calls) ≡
    string_bytes l.fn.out ++ flat_map (and_call (plain_program l.program)) l.calls
