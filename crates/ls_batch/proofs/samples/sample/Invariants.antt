-- What `sample` in src/samples.rt keeps.

use Rattle.std.proofs.Common.{◌≡◌, ◌-◌, ◌≤◌, ◌++◌, vec_len, vec_capacity}
use Rattle.ls_batch.specs.Samples.{draws}
use Rattle.ls_batch.proofs.samples.sample.Given as goal

abbrev pub invariant-loop : goal.invariant-loop
invariant-loop l = record {
  drawn : l.entries.items ++ draws l.threads l.drawing.switch l.last (l.drawing.steps - l.counter) l.rng ≡ draws
      l.threads l.drawing.switch 0 l.drawing.steps l.seed;
  count : vec_len l.entries ≡ l.counter;
  room : l.drawing.steps ≤ vec_capacity l.entries;
  within : l.last ≤ l.threads;
}
