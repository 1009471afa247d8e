-- What the loop `done` of `judge_calls` in src/judging.rt keeps.
use Rattle.std.proofs.Common.{◌≡◌, ◌++◌}
use Rattle.ls_progress.specs.Ends.{calls_to, keys}
use Rattle.ls_progress.specs.Judged.{AreEndsIn}
use Rattle.ls_progress.proofs.judging.judge_calls.Given as goal

abbrev pub invariant-loop-done : goal.invariant-loop-done
invariant-loop-done l = record {
  ends : AreEndsIn l.labelled.scope l.calls.items;
  listed : keys l.calls.items ≡ keys l.fn.calls.items ++ calls_to l.labelled.thread l.done;
}
