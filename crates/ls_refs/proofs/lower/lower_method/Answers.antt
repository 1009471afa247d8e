-- Why `lower_method` in src/lower.rt keeps what `lower_statement` requires.

use Rattle.std.proofs.Common.{◌^◌, arith}
use Rattle.ls_checked.specs.Plain.{plain_statement as checked_statement}
use Rattle.ls_refs.proofs.Jumps.{below}
use Rattle.ls_refs.proofs.lower.lower_method.Goals as goal

pub lower_statement-requires-clause-jumps : goal.lower_statement-requires-clause-jumps
lower_statement-requires-clause-jumps c =
    below (2 ^ 63) 0 (checked_statement c.args.method.now.body) (omega (arith, c.in_ok-count_loops.ensures.low))
    c.requires.loops
