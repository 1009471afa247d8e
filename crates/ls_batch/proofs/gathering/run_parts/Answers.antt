-- Why `run_parts` in src/gathering.rt keeps its contract.

use Rattle.std.proofs.Common.{◌≡◌, ◌∙◌, refl, IfOk, max, arith}
use Rattle.rayon.proofs.ListFacts.{IfOk-then}
use Rattle.rayon.proofs.ToStd.{slice-AllZip}
use Rattle.rayon.specs.Lists.{chunks_of, chunks_size, chunks_slice}
use Rattle.ls_batch.specs.Gathered.{runs_of}
use Rattle.ls_batch.specs.Counted.{AreCounts}
use Rattle.ls_batch.proofs.gathering.run_parts.Goals as goal

pub returns : goal.returns
returns g c =
    let size = max c.seeds_at_once.result 1 in
    let parts : chunks_of (max (chunks_size c.par_chunks.result) 1) (chunks_slice c.par_chunks.result) ≡ chunks_of size
    c.args.seeds.now = rw (c.par_chunks.ensures.slice, c.par_chunks.ensures.size) refl in
    IfOk-then c.collect.result _ _ c.collect.ensures (λ v h.
    let chain = rw (c.map.ensures.base, c.with_min_len.ensures.base, c.map.ensures.f) at h.1 in (
      size,
      omega arith,
      rw h.2
          (slice-AllZip chain.0 (chunks_of size c.args.seeds.now) (chain.1 ∙ parts)
          (λ group part. IfOk part (AreCounts (runs_of c.args.code.now c.args.cells c.args.drawing group))) h.0
          chain.2),
    ))
