-- Why `print_tally` in src/printing.rt keeps its contract.

use Rattle.std.proofs.Common.{ap, ◌∙◌, map, string_bytes}
use Rattle.rayon.proofs.ToStd.{chunks_of-concat}
use Rattle.rayon.specs.Lists.{chunks_of}
use Rattle.ls_checked.specs.PlainProgram.{plain_program}
use Rattle.ls_batch.specs.Printing.{tally_text}
use Rattle.ls_batch.specs.Rows.{entry_row}
use Rattle.ls_batch.proofs.Printed.{whole_text, zip_texts}
use Rattle.ls_batch.proofs.printing.print_tally.Goals as goal

pub returns : goal.returns
returns g c =
    let p = plain_program c.args.program.now in
    let entries = c.entries.result.now in
    let parts = c.in_ok-parts.ensures in
    let groups = chunks_of parts.0 entries in
    c.in_ok-text.ensures (map (λ group. tally_text p (map entry_row group)) groups)
    (zip_texts string_bytes (λ group. tally_text p (map entry_row group)) groups _ parts.2)
    ∙ whole_text p entry_row groups ∙ ap (λ es. tally_text p (map entry_row es))
    (chunks_of-concat parts.0 entries parts.1) ∙ ap (tally_text p) c.entries.ensures
