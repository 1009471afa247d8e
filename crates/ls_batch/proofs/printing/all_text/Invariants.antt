-- What the loop `part` of `all_text` in src/printing.rt keeps.

use Rattle.std.proofs.Common.{string_bytes}
use Rattle.ls_batch.proofs.Printed.{IsText}
use Rattle.ls_batch.proofs.printing.all_text.Given as goal

abbrev pub invariant-loop-part : goal.invariant-loop-part
invariant-loop-part l = IsText string_bytes l.yielded (string_bytes l.out)
