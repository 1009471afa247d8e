-- What the loop `thread` of `is_stuck` in src/checking.rt keeps.

use Rattle.std.proofs.Common.{◌≡◌, ◌<◌, ℕ, true}
use Rattle.ls_meaning.specs.declared.step.Did.TheVariants as did
use Rattle.ls_meaning.specs.Still.{IsStill}
use Rattle.ls_source.specs.Shown.{progress_of}
use Rattle.ls_fewest_switches.proofs.Ending.{did_at}
use Rattle.ls_fewest_switches.proofs.checking.is_stuck.Given as goal

abbrev pub invariant-loop-thread : goal.invariant-loop-thread
invariant-loop-thread l = record {
  same : progress_of l.run ≡ progress_of l.fn.run;
  still : (u : ℕ) → u < l.thread → IsStill (did_at (progress_of l.fn.run) u);
  waiting : l.waits ≡ true → (u : ℕ) × (did_at (progress_of l.fn.run) u ≡ did.Waits);
}
