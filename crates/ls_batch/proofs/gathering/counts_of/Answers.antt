-- Why `counts_of` in src/gathering.rt keeps its contract.

use Rattle.std.proofs.Common.{ℕ, ap, ◌∙◌, map, subst}
use Rattle.rayon.proofs.ToStd.{chunks_of-concat}
use Rattle.rayon.specs.Lists.{chunks_of}
use Rattle.ls_batch.specs.Samples.{history_of}
use Rattle.ls_batch.specs.Counted.{AreCounts, run}
use Rattle.ls_batch.specs.Tallies.{History}
use Rattle.ls_batch.proofs.Batched.{all_runs, zip_runs}
use Rattle.ls_batch.proofs.gathering.counts_of.Goals as goal

pub returns : goal.returns
returns g c =
    let h : ℕ → History = λ s. history_of c.args.code.now c.args.cells s c.args.drawing in
    let parts = c.in_ok-parts.ensures in
    let groups = chunks_of parts.0 c.args.seeds.now in
    subst (λ rs. AreCounts rs c.in_ok-counts.counts) (all_runs h groups ∙
    ap (map (λ s. run s (h s))) (chunks_of-concat parts.0 c.args.seeds.now parts.1))
    (c.in_ok-counts.ensures (map (map (λ s. run s (h s))) groups) (zip_runs h groups _ parts.2))
