-- What `push_times` in src/graphs.rt keeps.

use Rattle.std.proofs.Common.{◌≡◌, ◌++◌, replicate}
use Rattle.ls_search.proofs.graphs.push_times.Given as goal

abbrev pub invariant-loop : goal.invariant-loop
invariant-loop l = l.threads.items ≡ l.initial.threads.items ++ replicate l.counter l.thread
