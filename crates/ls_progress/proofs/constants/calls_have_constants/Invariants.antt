-- What the loop `call` of `calls_have_constants` in src/constants.rt keeps.
use Rattle.std.proofs.Common.{drop, map}
use Rattle.ls_checked.specs.PlainProgram.{plain_call}
use Rattle.ls_meaning.specs.Constants.{CallsHaveConstants}
use Rattle.ls_progress.proofs.constants.calls_have_constants.Given as goal

abbrev pub invariant-loop-call : goal.invariant-loop-call
invariant-loop-call l =
    CallsHaveConstants (map plain_call (drop l.call-index l.calls)) → CallsHaveConstants (map plain_call l.calls)
