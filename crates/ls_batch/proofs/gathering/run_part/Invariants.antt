-- What the loop `seed` of `run_part` in src/gathering.rt keeps.

use Rattle.std.proofs.Common.{◌≡◌, take}
use Rattle.ls_batch.specs.Gathered.{runs_of}
use Rattle.ls_batch.specs.Counted.{AreCounts}
use Rattle.ls_batch.proofs.gathering.run_part.Given as goal

abbrev pub invariant-loop-seed : goal.invariant-loop-seed
invariant-loop-seed l = record {
  code : l.machine.code ≡ l.code;
  cells : l.machine.cells.limit ≡ l.cells;
  counts : AreCounts (runs_of l.code l.cells l.drawing (take l.seed-index l.seeds)) l.counts;
}
