-- Why `print_parts` in src/printing.rt keeps its contract.

use Rattle.std.proofs.Common.{◌≡◌, ◌∙◌, refl, IfOk, map, max, arith, string_bytes}
use Rattle.rayon.proofs.ListFacts.{IfOk-then}
use Rattle.rayon.proofs.ToStd.{slice-AllZip}
use Rattle.rayon.specs.Lists.{chunks_of, chunks_size, chunks_slice}
use Rattle.ls_checked.specs.PlainProgram.{plain_program}
use Rattle.ls_batch.specs.Printing.{tally_text}
use Rattle.ls_batch.specs.Rows.{entry_row}
use Rattle.ls_batch.proofs.printing.print_parts.Goals as goal

pub returns : goal.returns
returns g c =
    let size = max c.entries_at_once.result 1 in
    let parts : chunks_of (max (chunks_size c.par_chunks.result) 1) (chunks_slice c.par_chunks.result) ≡ chunks_of size
    c.args.entries.now = rw (c.par_chunks.ensures.slice, c.par_chunks.ensures.size) refl in
    IfOk-then c.collect.result _ _ c.collect.ensures (λ v h.
    let chain = rw (c.map.ensures.base, c.with_min_len.ensures.base, c.map.ensures.f) at h.1 in (
      size,
      omega arith,
      rw h.2
          (slice-AllZip chain.0 (chunks_of size c.args.entries.now) (chain.1 ∙ parts)
          (λ group part. IfOk part (λ text. string_bytes text ≡ tally_text (plain_program c.args.program.now)
          (map entry_row group))) h.0 chain.2),
    ))
