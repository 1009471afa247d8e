-- What the loop `at` of `find_catcher` in src/thread.rt keeps.

use Rattle.std.proofs.Common.{◌≡◌, map, drop}
use Rattle.ls_code.specs.Throws.{thrown}
use Rattle.ls_events.specs.declared.kind.Kind.{Kind}
use Rattle.ls_machine_threads.proofs.thread.find_catcher.Given as goal

abbrev pub invariant-loop-at : goal.invariant-loop-at
invariant-loop-at l = (kind : Kind) → thrown l.rows kind (map (λ k. k.frame) (drop l.at l.frames)) ≡ thrown l.rows kind
    (map (λ k. k.frame) (drop l.from l.frames))
